use Rattle.std.proofs.Common.{◌≡◌, false, drop, map, take}
use Rattle.std.specs.Prelude.{find}
use Rattle.std.specs.List.{list_any}
use Rattle.std.specs.Str.{bytes_eq}
use Rattle.aoe_args.specs.Apps.{form}
use Rattle.aoe_args.proofs.slip.form_in.Given as goal

abbrev pub invariant-forms : goal.invariant-forms
invariant-forms l = record {
  there : list_any (λ form. bytes_eq l.fn.name form.0.now) (take l.form-index l.forms) ≡ false;
  form : find (λ f. bytes_eq l.fn.name f.0) (map form (drop l.form-index l.forms)) ≡ find (λ f. bytes_eq l.fn.name f.0) (map form l.forms);
}
