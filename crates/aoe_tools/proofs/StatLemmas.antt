-- The devices are found, and then they are visited.
use Rattle.std.proofs.Common.{ℕ, ◌≡◌, List, [], ◌∷◌, ◌++◌, Option, refl, sym, ◌∙◌}
use Rattle.std.specs.Prelude.{Ok, Err}
use Rattle.aoe_base.specs.declared.address.Mac.{Mac}
use Rattle.aoe_base.specs.declared.failure.Failed.{Failed}
use Rattle.aoe_io.proofs.LinkLemmas.{Added-then, turned-then}
use Rattle.aoe_io.specs.Link.{Turn, Turned}
use Rattle.aoe_tools.specs.Asking.{responses}
use Rattle.aoe_tools.specs.Discovery.{Discovers, finding_question, finding_request, unless_none}
use Rattle.aoe_tools.specs.Found.{found_in}
use Rattle.aoe_tools.specs.Stat.{Stats, says}
use Rattle.aoe_tools.specs.Visits.{EndsVisits, Visit, VisitsAll, devices, learned, visit_asked, visit_asks, visit_turns}
use Rattle.aoe_tools.specs.Waiting.{asked}
use Rattle.aoe_tools.specs.declared.end.ToolRefusal.{ToolRefusal}
use Rattle.aoe_tools.specs.declared.end.ToolRefusal.TheVariants as tool
use Rattle.aoe_tools.specs.declared.found.Seen.{Seen}
use Rattle.aoe_tools.proofs.ListenLemmas.{Frames}
use Rattle.aoe_tools.proofs.WaitLemmas.{front-then}

found-some : (limit : ℕ) (found list : List Seen) → Ok found ≡ unless_none limit list → found ≡ list
found-some limit found [] e = absurd cc
found-some limit found (s ∷ list) e = cc

found-none : (limit : ℕ) (r : ToolRefusal) (list : List Seen) → Err r ≡ unless_none limit list → list ≡ []
found-none limit r [] e = refl
found-none limit r (s ∷ list) e = absurd cc

some-last : (limit : ℕ) (list : List Seen) (s : Seen) → Ok (list ++ s ∷ []) ≡ unless_none limit (list ++ s ∷ [])
some-last limit [] s = refl
some-last limit (x ∷ list) s = refl

-- where devices were found, and all were visited, it says them
says-them : (first : ℕ) (port : Mac) (limit : ℕ) (found list : List Seen) (visits : List Visit) → Ok found ≡ unless_none limit list → devices visits ≡ found
    → Ok (learned first port visits) ≡ says first port limit visits
says-them first port limit found list [] some none_visited = absurd (let none = rw (← (found-some limit found list some), ← none_visited) at some in cc)
says-them first port limit found list (v ∷ earlier) some visited = some-last limit (learned first port earlier) _

module _ {first : ℕ} {port : Mac} {limit start mid : ℕ} {given given' : Option (List Turn)} {taken taken' : Option Frames} where
  -- nothing was found
  pub finds-none : (e : ToolRefusal) → Discovers (Err e) (finding_question first port) (finding_request first port) limit start mid given given' taken taken'
      → Stats (Err e) first port limit start mid given given' taken taken'
  finds-none tool.LinkFault d = record {
    finding = d.turns;
    visits = [];
    turned = d.turned;
    lasts = d.lasts;
    ends = d.ends;
  }
  finds-none tool.NoMemory d = record { finding = d.turns; visits = []; turned = d.turned; lasts = d.lasts; ends = (refl, d.ends.0, d.ends.1, d.ends.2) }
  finds-none (tool.Unanswered turns) d =
      let none = found-none limit (tool.Unanswered turns) (found_in (responses (finding_question first port) d.turns)) d.ends.1 in
      record { finding = d.turns; visits = []; turned = d.turned; lasts = d.lasts; ends = ((d.ends.0, sym none, tt), rw none at d.ends.1, d.ends.2) }
  finds-none (tool.Refused r) d =
      absurd (let no = rw (found-none limit (tool.Refused r) (found_in (responses (finding_question first port) d.turns)) d.ends.1) at d.ends.1 in cc)

  module _ {found found' : List Seen} {last : ℕ} {given'' : Option (List Turn)} {taken'' : Option Frames}
      (d : Discovers (Ok found) (finding_question first port) (finding_request first port) limit start mid given given' taken taken') where
    pub visits-them : VisitsAll (Ok tt) first port limit found found' mid last given' given'' taken' taken''
        → Stats (Ok found') first port limit start last given given'' taken taken''
    visits-them w =
        let list = found_in (responses (finding_question first port) d.turns) in
        record {
          finding = d.turns;
          visits = w.visits;
          turned = turned-then start mid last given given' given'' d.turns (visit_turns w.visits) d.turned w.turned;
          lasts = d.lasts;
          ends = rw w.ends.1 (
            (d.ends.0, w.ends.0 ∙ found-some limit found list d.ends.1, w.ends.2),
            says-them first port limit found list w.visits d.ends.1 w.ends.0,
            Added-then taken taken' taken'' (asked (finding_request first port) d.turns) (visit_asked first port w.visits) d.ends.2 w.ends.3,
          );
        }

    pub visits-some : {e : Failed} → VisitsAll (Err e) first port limit found found' mid last given' given'' taken' taken''
        → Stats (Err tool.LinkFault) first port limit start last given given'' taken taken''
    visits-some {e} w = at w.visits w.turned w.ends
      where
        at : (visits : List Visit) → Turned mid last given' given'' (visit_turns visits)
            → EndsVisits (Err e) first port limit found found' visits taken' taken''
            → Stats (Err tool.LinkFault) first port limit start last given given'' taken taken''
        at [] turned ends = absurd ends.0
        at (v ∷ earlier) turned ends =
            let visits = v ∷ earlier in
            let here = rw (found-some limit found (found_in (responses (finding_question first port) d.turns)) d.ends.1) at ends in
            record {
              finding = d.turns;
              visits = visits;
              turned = turned-then start mid last given given' given'' d.turns (visit_turns visits) d.turned turned;
              lasts = d.lasts;
              ends = (
                (d.ends.0, here.0),
                front-then taken taken' taken'' (asked (finding_request first port) d.turns) (visit_asks first port visits)
                    (visit_asked first port visits) d.ends.2 here.1,
              );
            }
