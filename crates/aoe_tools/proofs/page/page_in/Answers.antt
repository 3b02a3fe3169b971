use Rattle.std.proofs.Common.{ℕ, ◌≡◌, ◌+◌, ◌-◌, ◌≤◌, List, Some, drop, length, take, sym, ap, ◌∙◌, arith}
use Rattle.std.proofs.lemmas.List.{take_rest}
use Rattle.aoe_initiator.specs.Response.{CanFill}
use Rattle.aoe_initiator.specs.declared.response.Answer.{Answer}
use Rattle.aoe_initiator.specs.declared.response.Answer.TheVariants as answer
use Rattle.aoe_tools.specs.Page.{page_in}
use Rattle.aoe_tools.proofs.page.page_in.Goals as goal

page-is : (a : Answer) (len : ℕ) (args page : List ℕ) → a ≡ answer.Data len → CanFill a args 512
    → page ≡ take 512 (take (length args - 12) (drop 12 args)) → page_in a args ≡ Some page
page-is a len args page is fill same =
    let fills : (512 ≡ len) × (12 + len ≤ length args) = rw is at fill in
    let count : 512 ≡ 12 + len - 12 = omega (arith, fills.0) in
    rw is (ap Some (sym (same ∙ ap (take 512) (take_rest args 12) ∙ ap (λ n. take n (drop 12 args)) count)))

pub returns-in-Some-clause-page : goal.returns-in-Some-clause-page
returns-in-Some-clause-page c =
    page-is c.args.answer c.in-Data.len c.args.args.now c.in-Some.page.now c.in-Data.is c.requires c.in-Some.ensures.cases.same
