-- What a host sends: the request of a command that is next, with its tag.
use Rattle.std.proofs.Common.{ℕ, zero, suc, ◌+◌, ◌<◌, ◌≡◌, inl, inr, Bool, true, false, List, [], ◌∷◌, Some, refl, ap, ◌∙◌, arith, Contains}
use Rattle.std.specs.Prelude.{slice_get}
use Rattle.std.specs.List.{find}
use Rattle.std.specs.Option.{option_map}
use Rattle.std.proofs.lemmas.Bool.{cases_Bool}
use Rattle.arrayvec.specs.ArrayVec.{ArrayVec}
use Rattle.aoe_base.specs.declared.address.Mac.{Mac}
use Rattle.aoe_base.specs.declared.counted.DeviceNo.{DeviceNo}
use Rattle.aoe_base.specs.declared.counted.PathNo.{PathNo}
use Rattle.aoe_base.specs.Addresses.{holds}
use Rattle.aoe_base.proofs.AddressLemmas.{holds-at}
use Rattle.aoe_frame.proofs.HeaderLemmas.{kind-read, head-fields}
use Rattle.aoe_frame.specs.Header.{fields, head, is_response, Fits}
use Rattle.aoe_initiator.specs.declared.device.Attached.{Attached}
use Rattle.aoe_initiator.specs.declared.device.Device.{Device}
use Rattle.aoe_initiator.specs.declared.op.Op.{Op}
use Rattle.aoe_initiator.specs.HostLaw.{spelled_for}
use Rattle.aoe_initiator.specs.HostLog.{HostCommand}
use Rattle.aoe_initiator.specs.Request.{request_header}
use Rattle.aoe_history.specs.declared.entry.Entry.{Entry}
use Rattle.aoe_history.specs.Commands.{devices_of, host_after}
use Rattle.aoe_history.specs.CommandView.{IsRequest}
use Rattle.aoe_history.specs.Setup.{host_called, is_called, HostSetup, IsAttachedTo, IsSetup, Setup}
use Rattle.aoe_history.proofs.replies.RequestLemmas.{request-head}
use Rattle.aoe_initiator.proofs.ListLemmas.{Contains-cons, Contains-get}
use Rattle.aoe_initiator.proofs.NameLemmas.{same-id}

-- LISTS

pub found : {X : Type 0} (p : X → Bool) (xs : List X) (x : X) → find p xs ≡ Some x → Contains xs x × (p x ≡ true)
found p [] x e = absurd (cc)
found p (y ∷ xs) x e = elim (cases_Bool (p y)) [
  | inl own ↦ (let same : y ≡ x = (let is = rw own at e in cc) in rw (← same) ((0, omega arith, refl), own))
  | inr other ↦ let rest = found p xs x (rw other at e) in (Contains-cons y x xs rest.0, rest.1)
]

-- the host is one of the setup's, and its name is its own
pub host-there : (s : Setup) (name : ArrayVec ℕ) (host : HostSetup) → host_called s name ≡ Some host
    → Contains s.hosts host × (is_called host name ≡ true)
host-there s name host e = found (λ x. is_called x name) s.hosts host e

-- DEVICES

-- the history's devices are those of the setup
pub about-at : (ports : List Mac) (life now n : ℕ) (cs : List HostCommand) (ds : List Attached) (k : ℕ)
    → option_map (λ (d : Device). d.about) (slice_get (devices_of ports life now cs n ds) k) ≡ slice_get ds k
about-at ports life now n cs [] k = refl
about-at ports life now n cs (a ∷ ds) zero = refl
about-at ports life now n cs (a ∷ ds) (suc k) = about-at ports life now (n + 1) cs ds k

pub device-at : (ports : List Mac) (life now n : ℕ) (cs : List HostCommand) (ds : List Attached) (k : ℕ) (d : Device)
    → slice_get (devices_of ports life now cs n ds) k ≡ Some d → slice_get ds k ≡ Some d.about
device-at ports life now n cs ds k d e = grind (arith, about-at ports life now n cs ds k)

-- what is spelled for a command is its request
pub spelled-request : (s : Setup) (host : HostSetup) (h : List Entry) (op : Op) (device : DeviceNo) (path : PathNo) (tag : ℕ) (f : List ℕ)
    → tag < 4294967296 → spelled_for (host_after s host h) op device path tag ≡ Some f → IsRequest host device op tag f
spelled-request s host h op device path tag f small e = grind (arith, device-at, holds-at)

-- HEADERS

-- a request's header fits, and is read in it
module _ (s : Setup) (host : HostSetup) (device : DeviceNo) (op : Op) (tag : ℕ) (f : List ℕ) (ok : IsSetup s) (mine : Contains s.hosts host)
    (r : IsRequest host device op tag f) where
  pub request-fits : Fits (request_header op r.about.id r.remote r.local tag)
  request-fits =
      let a : IsAttachedTo s r.about = ok.attached host r.about mine (Contains-get host.devices device.0 r.about r.there) in
      let there = found _ s.slots a.slot a.there in
      let port : holds a.slot.station.ports.items r.remote ≡ true = rw a.remotes at r.other in
      let major = rw (same-id a.slot.station.id r.about.id there.1) at (ok.majors a.slot there.0) in
      record {
        dst = ok.shelf_addresses a.slot r.remote there.0 port;
        src = ok.host_addresses host r.local mine r.own;
        version = omega arith;
        flags = inl refl;
        major = omega arith;
        tag = r.fits;
      }

  pub request-kind : is_response f ≡ false
  request-kind = kind-read f _ (ap head r.is ∙ request-head _ _ _ _ _ _ request-fits)

  pub request-header : fields f ≡ request_header op r.about.id r.remote r.local tag
  request-header = ap fields r.is ∙ head-fields _ _ (request-head _ _ _ _ _ _ request-fits)
