-- What a mark disk says, and is made to say of the sides that are named.
use Rattle.std.proofs.Common.{◌≡◌, ◌<◌, ℕ, Bool, true, false, Option, None, Some, IfSome, List, Result, Ok, Err, OnOk, refl, sym, ap, ◌∙◌, subst, inl, inr, arith}
use Rattle.std.proofs.lemmas.Bool.{both_ways, cases_Bool}
use Rattle.aoe_base.specs.declared.failure.Failed.{Failed}
use Rattle.aoe_disk.specs.State.{BothTell, CanLeave, Contents, DiskState, is_loose, sector}
use Rattle.aoe_disk.specs.Sectors.{Calms, IsOutside, Touches}
use Rattle.aoe_mirror.specs.Clean.{AreEqual, NothingLoose, Says, SaysTruly, clean_at, clean_in}
use Rattle.aoe_mirror.specs.Mirror.{FindsMark, found_in}
use Rattle.aoe_mirror.specs.Names.{CrashesUnclean, HoldsWords, KeepsNames, Settled, Spares, SparesOthers, StaysSector, WritesSafely, asked, names_at, names_in, words_after, words_at, words_in}
use Rattle.aoe_mirror.specs.Sides.{Names, both, mark_in}
use Rattle.aoe_mirror.specs.declared.clean.Found.{Found}
use Rattle.aoe_mirror.specs.declared.names.Named.{Named}
use Rattle.aoe_mirror.specs.declared.settle.Words.{Words}
use Rattle.aoe_mirror.proofs.Told.{and_if, if_any, if_mono, told_ends, told_if, told_mono, told_same, told_then}
use Rattle.aoe_mirror.proofs.Cleaning.{clean_is, names_kept, says_kept}
use Rattle.aoe_mirror.proofs.Naming.{calm_touch, names_is, touch_more, touch_next}
use Rattle.aoe_mirror.proofs.Surviving.{mark_is, named_in}

-- WHAT IT SAYS

words_is : (bytes : List ℕ) → words_at bytes ≡ words_in (found_in (mark_in bytes) (clean_at bytes)) (names_at bytes)
unfolding words_at
words_is bytes = refl

same_words : (a b : Contents) → Calms a b → words_at b.bytes ≡ words_at a.bytes
same_words a b m = ap words_at m.bytes

unclean_words : (x : Option ℕ) (z : Option Named) → words_in (found_in x None) z ≡ None
unclean_words None z = refl
unclean_words (Some k) z = refl

words_found : (found : Option Found) (names : Option Named) (c : Contents) → FindsMark found c → names ≡ names_at c.bytes
    → words_in found names ≡ words_at c.bytes
words_found None names c (inl none) e = sym (words_is c.bytes ∙ ap (λ (x : Option ℕ). words_in (found_in x (clean_at c.bytes)) (names_at c.bytes)) none)
words_found None names c (inr none) e = sym (words_is c.bytes ∙ ap (λ (y : Option Bool). words_in (found_in (mark_in c.bytes) y) (names_at c.bytes)) none
    ∙ unclean_words (mark_in c.bytes) (names_at c.bytes))
words_found (Some found) names c h e = sym (words_is c.bytes
    ∙ ap (λ (x : Option ℕ). words_in (found_in x (clean_at c.bytes)) (names_at c.bytes)) h.0.whole
    ∙ ap (λ (y : Option Bool). words_in (found_in (Some found.side) y) (names_at c.bytes)) h.1.says
    ∙ ap (λ (z : Option Named). words_in (Some found) z) (sym e))

-- what was read of it, where the second part is of a mark disk
pub words_read : (found : Option Found) (names : Option Named) (b c : DiskState) → IfSome b.contents NothingLoose → IfSome b.contents (FindsMark found)
    → IfSome b.contents (λ (x : Contents). names ≡ names_at x.bytes) → c.contents ≡ b.contents
    → IfSome c.contents (λ (x : Contents). NothingLoose x × (words_in found names ≡ words_at x.bytes))
words_read found names b c quiet finds is same = rw same (and_if NothingLoose (λ (x : Contents). words_in found names ≡ words_at x.bytes) b.contents quiet
    (if_mono (λ (x : Contents). FindsMark found x × (names ≡ names_at x.bytes)) (λ (x : Contents). words_in found names ≡ words_at x.bytes) b.contents
    (and_if (FindsMark found) (λ (x : Contents). names ≡ names_at x.bytes) b.contents finds is)
    (λ x h. words_found found names x h.0 h.1)))

-- the first part isn't of a mark disk
abbrev pub no_names : Option Named
no_names = None

abbrev pub nothing : Option Words
nothing = None

pub none_read : (b : DiskState) → IfSome b.contents NothingLoose → IfSome b.contents (FindsMark None)
    → IfSome b.contents (λ (x : Contents). NothingLoose x × (nothing ≡ words_at x.bytes))
none_read b quiet finds = and_if NothingLoose (λ (x : Contents). nothing ≡ words_at x.bytes) b.contents quiet
    (if_mono (FindsMark None) (λ (x : Contents). nothing ≡ words_at x.bytes) b.contents finds
    (λ x h. words_found None (names_at x.bytes) x h refl))

-- the parts of what it says
record Parts (w : Words) (x : Option ℕ) (y : Option Bool) (z : Option Named) : Type 0 where
  side : x ≡ Some w.found.side
  clean : y ≡ Some w.found.is_clean
  names : z ≡ Some w.names

parts_of : (w : Words) (x : Option ℕ) (y : Option Bool) (z : Option Named) → words_in (found_in x y) z ≡ Some w → Parts w x y z
parts_of w None y z e = absurd cc
parts_of w (Some k) None z e = absurd cc
parts_of w (Some k) (Some clean) None e = absurd cc
parts_of w (Some k) (Some clean) (Some names) e =
    let is : record { found = record { side = k; is_clean = clean }; names = names } ≡ w = cc in
    record {
      side = ap (λ (v : Words). Some v.found.side) is;
      clean = ap (λ (v : Words). Some v.found.is_clean) is;
      names = ap (λ (v : Words). Some v.names) is;
    }

parts_at : (w : Words) (bytes : List ℕ) → Some w ≡ words_at bytes → Parts w (mark_in bytes) (clean_at bytes) (names_at bytes)
parts_at w bytes e = parts_of w (mark_in bytes) (clean_at bytes) (names_at bytes) (sym (words_is bytes) ∙ sym e)

abbrev pub IsSaid : Words → Contents → Type 0
IsSaid w c = NothingLoose c × (Some w ≡ words_at c.bytes)

module _ (w : Words) (d : DiskState) (said : IfSome d.contents (IsSaid w)) where
  pub said_side : IfSome d.contents (Names w.found.side)
  said_side = if_mono (IsSaid w) (Names w.found.side) d.contents said (λ c h.
      let parts = parts_at w c.bytes h.1 in
      record { kept = h.0 0; side = (named_in c.bytes w.found.side (sym (mark_is c.bytes) ∙ parts.side)).0; whole = parts.side })

  pub said_clean : IfSome d.contents (Says w.found.is_clean)
  said_clean = if_mono (IsSaid w) (Says w.found.is_clean) d.contents said (λ c h. record { kept = h.0 1; says = (parts_at w c.bytes h.1).clean })

  pub said_names : IfSome d.contents (KeepsNames w.names)
  said_names = if_mono (IsSaid w) (KeepsNames w.names) d.contents said (λ c h. record { kept = h.0 2; names = (parts_at w c.bytes h.1).names })

-- WHAT IS WRITTEN

pub ok_of : {T E : Type 0} {P : Type 0} (q : Result T E) → P → OnOk q P
ok_of (Ok v) p = p
ok_of (Err e) p = tt

-- the side, behind which the second sector is
module _ (a b : DiskState) (t : BothTell (Touches 0 1) a.contents b.contents) where
  pub says_beside : (clean : Bool) → IfSome a.contents (Says clean) → IfSome b.contents (Says clean)
  says_beside clean says = told_if (Touches 0 1) (Says clean) (Says clean) a.contents b.contents t says
      (λ x y s u. says_kept clean x y s (u.same 1 (inr (omega arith)), u.kept 1 (inr (omega arith))))

  pub unclean_beside : (was : Bool) → IfSome a.contents (Says was) → was ≡ false → IfSome b.contents (Says false)
  unclean_beside was says off = subst (λ (v : Bool). IfSome b.contents (Says v)) off (says_beside was says)

  pub first_touched : BothTell (Touches 0 2) a.contents b.contents
  first_touched = told_mono (Touches 0 1) (Touches 0 2) a.contents b.contents t (touch_more 1 2 (omega arith))

  module _ (c : DiskState) (u : BothTell (Touches 1 1) b.contents c.contents) where
    pub two_touched : BothTell (Touches 0 2) a.contents c.contents
    two_touched = told_then (Touches 0 1) (Touches 1 1) (Touches 0 2) a.contents b.contents c.contents t u (touch_next 1)

    pub side_beside : (side : ℕ) → IfSome b.contents (Names side) → IfSome c.contents (Names side)
    side_beside side names = told_if (Touches 1 1) (Names side) (Names side) b.contents c.contents u names
        (λ x y s v. names_kept side x y s (v.same 0 (inl (omega arith)), v.kept 0 (inl (omega arith))))

    -- what wasn't clean is not said to be
    pub unclean_still : (was is : Bool) → IfSome a.contents (Says was) → (is ≡ true → was ≡ true) → (is ≡ was → c ≡ b) → was ≡ false
        → IfSome c.contents (Says false)
    unclean_still was is says falls same off = elim (cases_Bool is) [
      | inl on ↦ absurd (both_ways was off (falls on))
      | inr isnt ↦ rw (same (isnt ∙ sym off)) (unclean_beside was says off)
    ]

names_keep : (names : Named) (a b : Contents) → KeepsNames names a → (sector b.bytes 2 ≡ sector a.bytes 2) → (is_loose a.loose 2 ≡ false → is_loose b.loose 2 ≡ false)
    → KeepsNames names b
names_keep names a b k same kept = record { kept = kept k.kept; names = names_is b.bytes ∙ ap names_in same ∙ sym (names_is a.bytes) ∙ k.names }

if_implies : {A : Type 0} {Q : Type 0} (P : A → Type 0) (x : Option A) → (Q → IfSome x P) → IfSome x (λ a. Q → P a)
if_implies P None h = tt
if_implies P (Some a) h = h

-- the names, behind what says which side leads and whether the mirror is clean
module _ (a b : DiskState) (t : BothTell (Touches 0 2) a.contents b.contents) (names : Named) (keeps : IfSome a.contents (KeepsNames names)) where
  pub names_behind : IfSome b.contents (KeepsNames names)
  names_behind = told_if (Touches 0 2) (KeepsNames names) (KeepsNames names) a.contents b.contents t keeps
      (λ x y k u. names_keep names x y k (u.same 2 (inr (omega arith))) (u.kept 2 (inr (omega arith))))

  module _ (was is : Bool) (unclean : was ≡ false → IfSome b.contents (Says false)) where
    -- no name was written
    pub safe_before : BothTell (WritesSafely was is) a.contents b.contents
    safe_before = told_ends (Touches 0 2) (WritesSafely was is) (KeepsNames names) (λ (y : Contents). was ≡ false → Says false y) a.contents b.contents t keeps
        (if_implies (Says false) b.contents unclean)
        (λ x y k says u. record {
          touches = touch_more 2 3 (omega arith) x y u;
          unclean = says;
          names = λ _. inr (u.same 2 (inr (omega arith)), u.kept 2 (inr (omega arith)) k.kept);
        })

    module _ (c : DiskState) (u : BothTell (Touches 2 1) b.contents c.contents) (says : IfSome b.contents (Says is)) where
      says_behind : (clean : Bool) → IfSome b.contents (Says clean) → IfSome c.contents (Says clean)
      says_behind clean h = told_if (Touches 2 1) (Says clean) (Says clean) b.contents c.contents u h
          (λ x y s v. says_kept clean x y s (v.same 1 (inl (omega arith)), v.kept 1 (inl (omega arith))))

      three_touched : BothTell (Touches 0 3) a.contents c.contents
      three_touched = told_then (Touches 0 2) (Touches 2 1) (Touches 0 3) a.contents b.contents c.contents t u (touch_next 2)

      pub safe_behind : BothTell (WritesSafely was is) a.contents c.contents
      safe_behind = told_ends (Touches 0 3) (WritesSafely was is) (λ _. Unit {0})
          (λ (z : Contents). (was ≡ false → Says false z) × (is ≡ false → Says false z)) a.contents c.contents three_touched (if_any a.contents)
          (and_if (λ (z : Contents). was ≡ false → Says false z) (λ (z : Contents). is ≡ false → Says false z) c.contents
          (if_implies (Says false) c.contents (λ off. says_behind false (unclean off)))
          (if_implies (Says false) c.contents (λ off. says_behind false (subst (λ (v : Bool). IfSome b.contents (Says v)) off says))))
          (λ x z _ h v. record { touches = v; unclean = h.0; names = λ off. inl (h.1 off) })

      pub holds_behind : (words : Words) → words.found.is_clean ≡ is → IfSome b.contents (Names words.found.side) → (q : Result (Unit {0}) Failed)
          → (sectors : ℕ) → b.sectors ≡ sectors → OnOk q (2 < b.sectors → IfSome c.contents (KeepsNames words.names))
          → OnOk q (IfSome c.contents (HoldsWords sectors words))
      holds_behind words clean side (Err e) sectors count written = tt
      holds_behind words clean side (Ok v) sectors count written =
          if_mono (λ (z : Contents). Names words.found.side z × (Says is z × (2 < sectors → KeepsNames words.names z))) (HoldsWords sectors words) c.contents
          (and_if (Names words.found.side) (λ (z : Contents). Says is z × (2 < sectors → KeepsNames words.names z)) c.contents
          (told_if (Touches 2 1) (Names words.found.side) (Names words.found.side) b.contents c.contents u side
          (λ x y s v. names_kept words.found.side x y s (v.same 0 (inl (omega arith)), v.kept 0 (inl (omega arith)))))
          (and_if (Says is) (λ (z : Contents). 2 < sectors → KeepsNames words.names z) c.contents (says_behind is says)
          (if_implies (KeepsNames words.names) c.contents (λ room. written (rw count room)))))
          (λ z h. record { side = h.0; clean = rw clean h.1.0; names = h.1.1 })

-- WHAT ISN'T WRITTEN

told_implies : {A B Q : Type 0} (S R : A → B → Type 0) (x : Option A) (y : Option B) → BothTell S x y → (Q → BothTell R x y) → BothTell (λ a b. Q → R a b) x y
told_implies S R None None t h = tt
told_implies S R None (Some b) t h = absurd t
told_implies S R (Some a) None t h = absurd t
told_implies S R (Some a) (Some b) t h = h

told_and : {A B : Type 0} (R S : A → B → Type 0) (x : Option A) (y : Option B) → BothTell R x y → BothTell S x y → BothTell (λ a b. R a b × S a b) x y
told_and R S None None t u = tt
told_and R S None (Some b) t u = absurd t
told_and R S (Some a) None t u = absurd t
told_and R S (Some a) (Some b) t u = (t, u)

stays_outside : (at n s : ℕ) → IsOutside at n s → (x y : Contents) → Touches at n x y → StaysSector s x y
stays_outside at n s out x y t = (t.same s out, t.kept s out)

stays_then : (s : ℕ) (x y z : Contents) → StaysSector s x y → StaysSector s y z → StaysSector s x z
stays_then s x y z a b = (b.0 ∙ a.0, λ off. b.1 (a.1 off))

pub stays_idle : (s : ℕ) (a b : DiskState) → b ≡ a → BothTell (StaysSector s) a.contents b.contents
stays_idle s a b e = rw e (told_mono (λ (x y : Contents). y ≡ x) (StaysSector s) a.contents a.contents (told_same a.contents)
    (λ x y f. (ap (λ (c : Contents). sector c.bytes s) f, λ off. ap (λ (c : Contents). is_loose c.loose s) f ∙ off)))

pub stays_by : (at n s : ℕ) → IsOutside at n s → (a b : DiskState) → BothTell (Touches at n) a.contents b.contents → BothTell (StaysSector s) a.contents b.contents
stays_by at n s out a b t = told_mono (Touches at n) (StaysSector s) a.contents b.contents t (stays_outside at n s out)

pub stays_on : (s : ℕ) (a b c : DiskState) → BothTell (StaysSector s) a.contents b.contents → BothTell (StaysSector s) b.contents c.contents
    → BothTell (StaysSector s) a.contents c.contents
stays_on s a b c t u = told_then (StaysSector s) (StaysSector s) (StaysSector s) a.contents b.contents c.contents t u (stays_then s)

pub spares_all : (was is : Words) (a b : DiskState) → BothTell (WritesSafely was.found.is_clean is.found.is_clean) a.contents b.contents
    → (is.found.side ≡ was.found.side → BothTell (StaysSector 0) a.contents b.contents)
    → (is.found.is_clean ≡ was.found.is_clean → BothTell (StaysSector 1) a.contents b.contents)
    → (is.names ≡ was.names → BothTell (StaysSector 2) a.contents b.contents) → BothTell (Spares was is) a.contents b.contents
spares_all was is a b safe side clean names =
    let W : Contents → Contents → Type 0 = WritesSafely was.found.is_clean is.found.is_clean in
    let S : Contents → Contents → Type 0 = λ x y. is.found.side ≡ was.found.side → StaysSector 0 x y in
    let C : Contents → Contents → Type 0 = λ x y. is.found.is_clean ≡ was.found.is_clean → StaysSector 1 x y in
    let N : Contents → Contents → Type 0 = λ x y. is.names ≡ was.names → StaysSector 2 x y in
    told_mono (λ x y. S x y × (C x y × N x y)) (Spares was is) a.contents b.contents
    (told_and S (λ x y. C x y × N x y) a.contents b.contents (told_implies W (StaysSector 0) a.contents b.contents safe side)
    (told_and C N a.contents b.contents (told_implies W (StaysSector 1) a.contents b.contents safe clean)
    (told_implies W (StaysSector 2) a.contents b.contents safe names)))
    (λ x y h. record { side = h.0; clean = h.1.0; names = h.1.1 })

-- THE WHOLE

-- whether what a crash left says that the mirror is clean
clean_left : (c : Contents) (image : List ℕ) → is_loose c.loose 1 ≡ false → CanLeave c image → clean_at image ≡ clean_at c.bytes
clean_left c image off leave = clean_is image ∙ ap clean_in (leave.kept 1 off) ∙ sym (clean_is c.bytes)

names_left : (c : Contents) (image : List ℕ) → is_loose c.loose 2 ≡ false → CanLeave c image → names_at image ≡ names_at c.bytes
names_left c image off leave = names_is image ∙ ap names_in (leave.kept 2 off) ∙ sym (names_is c.bytes)

not_clean : (o : Option Bool) → o ≡ Some false → o ≡ Some true → ⊥
not_clean o e f = let is : Some false ≡ Some true = sym e ∙ f in cc

says_not : (c : Contents) (image : List ℕ) → Says false c → CanLeave c image → clean_at image ≡ Some true → ⊥
says_not c image says leave on = not_clean (clean_at image) (clean_left c image says.kept leave ∙ says.says) on

-- a mark disk that was synced at most

calm_stays : (s : ℕ) (x y : Contents) → Calms x y → StaysSector s x y
calm_stays s x y m = (ap (λ (l : List ℕ). sector l s) m.bytes, m.kept s)

crash_calm : (named : Named) (told : Bool) (a b : Contents) → Calms a b → CrashesUnclean named told a b
crash_calm named told a b m = record {
  clean = λ off image leave on. ap clean_at (sym m.bytes) ∙ sym (clean_left b image (m.kept 1 off) leave) ∙ on;
  names = λ off _ image leave on. names_left b image (m.kept 2 off) leave ∙ ap names_at m.bytes;
}

pub crashes_calm : (named : Named) (told : Bool) (a b : DiskState) → BothTell Calms a.contents b.contents
    → BothTell (CrashesUnclean named told) a.contents b.contents
crashes_calm named told a b calm = told_mono Calms (CrashesUnclean named told) a.contents b.contents calm (crash_calm named told)

pub spares_calm : (named : Named) (told : Bool) (a b : DiskState) → BothTell Calms a.contents b.contents
    → BothTell (SparesOthers named told) a.contents b.contents
spares_calm named told a b calm = told_mono Calms (SparesOthers named told) a.contents b.contents calm
    (λ x y m. λ was is _ _. record { side = λ _. calm_stays 0 x y m; clean = λ _. calm_stays 1 x y m; names = λ _. calm_stays 2 x y m })

-- it says that the mirror is clean only where it did
abbrev KeepsTrue : Contents → Contents → Type 0
KeepsTrue a b = clean_at b.bytes ≡ Some true → clean_at a.bytes ≡ Some true

truly_by : (a b one two : DiskState) → BothTell KeepsTrue a.contents b.contents → SaysTruly one two a → SaysTruly one two b
truly_by a b one two keeps truly = told_if KeepsTrue (λ (m : Contents). clean_at m.bytes ≡ Some true → IfSome (both one.contents two.contents) AreEqual)
    (λ (m : Contents). clean_at m.bytes ≡ Some true → IfSome (both one.contents two.contents) AreEqual) a.contents b.contents keeps truly
    (λ x y h k. λ on. h (k on))

pub truly_calm : (a b one two : DiskState) → BothTell Calms a.contents b.contents → SaysTruly one two a → SaysTruly one two b
truly_calm a b one two calm = truly_by a b one two (told_mono Calms KeepsTrue a.contents b.contents calm (λ x y m. λ on. ap clean_at (sym m.bytes) ∙ on))

-- a mark disk that was read, and written

module _ (named : Named) (told : Bool) (was words : Words) (is : words_after was named told ≡ Ok words) where
  abbrev Safe : Contents → Contents → Type 0
  Safe = WritesSafely was.found.is_clean words.found.is_clean

  module _ (o b n : Contents) (calm : Calms o b) (said : Some was ≡ words_at b.bytes) (safe : Safe b n) where
    parts : Parts was (mark_in b.bytes) (clean_at b.bytes) (names_at b.bytes)
    parts = parts_at was b.bytes said

    asked_is : asked (words_at o.bytes) named told ≡ Ok words
    asked_is = ap (λ (w : Option Words). asked w named told) (sym (same_words o b calm) ∙ sym said) ∙ is

    clean_was : was.found.is_clean ≡ true → clean_at o.bytes ≡ Some true
    clean_was on = ap clean_at (sym calm.bytes) ∙ parts.clean ∙ ap Some on

    crash_by : CrashesUnclean named told o n
    crash_by = record {
      clean = λ off image leave on. elim (cases_Bool was.found.is_clean) [
        | inl clean ↦ clean_was clean
        | inr isnt ↦ absurd (says_not n image (safe.unclean isnt) leave on)
      ];
      names = λ off not image leave on.
          let unclean : words.found.is_clean ≡ false = rw asked_is at not in
          elim (safe.names unclean) [
            | inl says ↦ absurd (says_not n image says leave on)
            | inr kept ↦ names_left n image kept.1 leave ∙ names_is n.bytes ∙ ap names_in kept.0 ∙ sym (names_is b.bytes) ∙ ap names_at calm.bytes
          ];
    }

    spares_by : Spares was words b n → SparesOthers named told o n
    spares_by s = λ was' is' said' is''. spare was' is' (same_was was' said') (same_is was' is' (same_was was' said') is'')
      where
        same_was : (was' : Words) → words_at o.bytes ≡ Some was' → was' ≡ was
        same_was was' said' = let e : Some was' ≡ Some was = sym said' ∙ sym (same_words o b calm) ∙ sym said in cc

        same_is : (was' is' : Words) → was' ≡ was → words_after was' named told ≡ Ok is' → is' ≡ words
        same_is was' is' e f = let g : Ok is' ≡ Ok words = sym f ∙ ap (λ (w : Words). words_after w named told) e ∙ is in cc

        spare : (was' is' : Words) → was' ≡ was → is' ≡ words → Spares was' is' o n
        spare was' is' e f = rw (e, f) (record {
          side = λ h. stays_then 0 o b n (calm_stays 0 o b calm) (s.side h);
          clean = λ h. stays_then 1 o b n (calm_stays 1 o b calm) (s.clean h);
          names = λ h. stays_then 2 o b n (calm_stays 2 o b calm) (s.names h);
        })

    true_by : KeepsTrue o n
    true_by = λ on. elim (cases_Bool was.found.is_clean) [
      | inl clean ↦ clean_was clean
      | inr isnt ↦ absurd (not_clean (clean_at n.bytes) (safe.unclean isnt).says on)
    ]

  module _ (o b n : DiskState) (calm : BothTell Calms o.contents b.contents) (said : IfSome b.contents (IsSaid was)) (safe : BothTell Safe b.contents n.contents) where
    reads : BothTell (λ (x y : Contents). Calms x y × (Some was ≡ words_at y.bytes)) o.contents b.contents
    reads = told_ends Calms (λ (x y : Contents). Calms x y × (Some was ≡ words_at y.bytes)) (λ _. Unit {0}) (IsSaid was) o.contents b.contents calm
        (if_any o.contents) said (λ x y _ h m. (m, h.1))

    pub others_whole : BothTell (Touches 0 3) o.contents n.contents
    others_whole = told_then Calms Safe (Touches 0 3) o.contents b.contents n.contents calm safe (λ x y z m s. calm_touch 0 3 x y z m s.touches)

    pub crash_whole : BothTell (CrashesUnclean named told) o.contents n.contents
    crash_whole = told_then (λ (x y : Contents). Calms x y × (Some was ≡ words_at y.bytes)) Safe (CrashesUnclean named told) o.contents b.contents n.contents
        reads safe (λ x y z r s. crash_by x y z r.0 r.1 s)

    pub spares_whole : BothTell (Spares was words) b.contents n.contents → BothTell (SparesOthers named told) o.contents n.contents
    spares_whole spares = told_then (λ (x y : Contents). Calms x y × (Some was ≡ words_at y.bytes)) (λ (y z : Contents). Safe y z × Spares was words y z)
        (SparesOthers named told) o.contents b.contents n.contents reads (told_and Safe (Spares was words) b.contents n.contents safe spares)
        (λ x y z r s. spares_by x y z r.0 r.1 s.0 s.1)

    pub truly_whole : (one two : DiskState) → SaysTruly one two o → SaysTruly one two n
    truly_whole one two = truly_by o n one two (told_then (λ (x y : Contents). Calms x y × (Some was ≡ words_at y.bytes)) Safe KeepsTrue o.contents b.contents
        n.contents reads safe (λ x y z r s. true_by x y z r.0 r.1 s))

    pub settled_whole : (sectors : ℕ) → IfSome n.contents (HoldsWords sectors words) → BothTell (Settled named told sectors) o.contents n.contents
    settled_whole sectors holds = told_ends (λ (x z : Contents). asked (words_at x.bytes) named told ≡ Ok words) (Settled named told sectors) (λ _. Unit {0})
        (HoldsWords sectors words) o.contents n.contents
        (told_then (λ (x y : Contents). Calms x y × (Some was ≡ words_at y.bytes)) Safe (λ (x z : Contents). asked (words_at x.bytes) named told ≡ Ok words)
        o.contents b.contents n.contents reads safe (λ x y z r s. asked_is x y z r.0 r.1 s))
        (if_any o.contents) holds (λ x z _ h e. record { words = words; asked = e; holds = h })
