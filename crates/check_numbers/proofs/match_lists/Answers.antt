-- Proves that `match_lists` compares all lists: those of the first c columns agree, so the others are compared from k on.
-- Assumes nothing.
use mathlib.Core.Path.{◌∙◌}
use Rattle.job_laws.proofs.Passed.{lists-iff}
use Rattle.write_lists.proofs.Columns.{column-list, numbers-next, numbers-none}
use Rattle.refusals.proofs.Passed.{handed-on}
use Rattle.check_numbers.proofs.Numbers.{left-all, left-numbers, differs-numbers, left-none}
use Rattle.check_numbers.proofs.match_lists.Goals as goal

pub loop-c-init : goal.loop-c-init
loop-c-init c =
    let p = c.requires in
    let t = p.tested in
    record { few = t.few; lists = (lists-iff _ _ _).0 (t.starts-pass, t.rows_pass); matched = left-all p.inside }

pub match_list-requires : goal.match_list-requires
match_list-requires c =
    let l = c.loop-c.invariant in
    record { inside = l.matched.inside; list = column-list l.few l.lists c.loop-c-test.true }

pub returns-in_err-k : goal.returns-in_err-k
returns-in_err-k c =
    let l = c.loop-c.invariant in
    handed-on _ c.from_residual.ensures.1 ∙ differs-numbers l.matched _ _ (numbers-next l.few l.lists c.loop-c-test.true)
    c.match_list.ensures c.in_err-k.was

pub loop-c-preserved : goal.loop-c-preserved
loop-c-preserved c =
    let l = c.loop-c.invariant in
    record {
      few = l.few;
      lists = l.lists;
      matched = left-numbers l.matched _ _ (numbers-next l.few l.lists c.loop-c-test.true)
          c.match_list.ensures c.in_ok-k.was;
    }

pub returns : goal.returns
returns c =
    let l = c.loop-c.invariant in
    left-none l.matched (numbers-none l.few l.lists c.loop-c-test.false)
