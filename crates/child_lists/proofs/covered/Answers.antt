-- Proves that `covered` tests whether all rows are marked: each call of the closure tests the mark of one row, which has its place in work.
-- Assumes nothing.
use Rattle.std.proofs.Common.{◌∙◌, rules, tests, arith}
use Rattle.std.proofs.lemmas.Iterator.{YieldsList-from_slice}
use Rattle.std.proofs.lemmas.Iterator.Adapters.{serves_from_places}
use Rattle.std.proofs.lemmas.Iterator.Search.{all_from_yields_List}
use Rattle.child_lists.specs.Marks.{is_marked}
use Rattle.child_lists.proofs.Marks.{mark-place-of, all-every}
use Rattle.child_lists.proofs.covered.Goals as goal

pub all-requires-clause-callable : goal.all-requires-clause-callable
all-requires-clause-callable c =
    serves_from_places (YieldsList-from_slice c.args.list.now cc) (λ x q k. search rules)
    (λ x k h e. let p = mark-place-of c.requires k h x.now e in let w = c.well_formed in search (rules, arith))

pub returns : goal.returns
returns c =
    all_from_yields_List (is_marked c.args.n c.args.j c.args.work.now) _ _ _ c.all.ensures.ran (YieldsList-from_slice c.args.list.now cc)
    (λ x b q k. search (rules, tests))
    ∙ all-every _ _
