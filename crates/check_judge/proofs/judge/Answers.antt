-- Proves that `judge` answers right: 16 or 17 decides; else the order names each column once and the lists are R with the job's parents, so the tests
-- of the tree decide.
-- Assumes nothing.
use Rattle.std.proofs.Common.{◌≡◌, refl, arith}
use Rattle.papers.specs.Check.{column_repeated, list_wrong}
use Rattle.papers.specs.Refusals.{passed}
use Rattle.papers.specs.Plan.{Plan}
use Rattle.job.specs.Given.{job_given}
use Rattle.column_laws.proofs.Testing.{tested}
use Rattle.check_judge.specs.Judged.{PlanAtStart, plan_from}
use Rattle.check_judge.proofs.Stored.{order-length, within, refuses-16, passes-16}
use Rattle.check_judge.proofs.Lists.{lists-stored, refuses-17, passes-17, tree-given, left-to-tree}
use Rattle.check_judge.proofs.judge.Goals as goal
use Rattle.check_judge.proofs.judge.Goals.{In_default, In_default-first_wrong_list}

-- ---- what the tests passed so far say of any plan that the slices hold

unrepeated : (c : In_default) (plan : Plan)
    → PlanAtStart c.args.job.head.n plan c.args.peak c.args.order.now c.args.pops.now c.args.factor.starts.now c.args.factor.rows.now
    → column_repeated.test (plan_from (job_given c.args.job) plan) ≡ passed
unrepeated c plan at-start = passes-16 (job_given c.args.job) plan at-start.stored c.first_repeat.ensures c.in_default.is

right : (c : In_default-first_wrong_list) (plan : Plan)
    → PlanAtStart c.args.job.head.n plan c.args.peak c.args.order.now c.args.pops.now c.args.factor.starts.now c.args.factor.rows.now
    → list_wrong.test (plan_from (job_given c.args.job) plan) ≡ passed
right c plan at-start =
    passes-17 (job_given c.args.job) c.requires.valid plan at-start
    (passes-16 (job_given c.args.job) plan at-start.stored c.first_repeat.ensures c.in_default.is)
    c.first_wrong_list.ensures.answers c.in_default-first_wrong_list.is

pub first_repeat-requires : goal.first_repeat-requires
first_repeat-requires c =
    let pre = c.requires in
    let stored = pre.plan.at-start.stored in
    let count = order-length stored in
    record { columns = within stored; few = omega (arith, (tested _ pre.valid).few); room = omega (arith, pre.long) }

pub returns-in-Some : goal.returns-in-Some
returns-in-Some c =
    record {
      answers = λ plan at-start. refuses-16 _ plan at-start.stored c.first_repeat.ensures c.in-Some.is (grind arith);
      stores = λ z. absurd (grind arith);
    }

pub first_wrong_list-requires : goal.first_wrong_list-requires
first_wrong_list-requires c =
    let pre = c.requires in
    record {
      tested = tested _ pre.valid;
      listed = lists-stored _ pre.valid _ pre.plan.at-start;
      parents-long = omega (arith, pre.long);
      work-long = omega (arith, pre.long);
    }

pub returns-in-Some-first_wrong_list : goal.returns-in-Some-first_wrong_list
returns-in-Some-first_wrong_list c =
    let at = goal.at.returns-in-Some-first_wrong_list c in
    record {
      answers = λ plan at-start. refuses-17 _ c.requires.valid plan at-start (unrepeated at.In_default plan at-start)
          c.first_wrong_list.ensures.answers c.in-Some-first_wrong_list.is (grind arith);
      stores = λ z. absurd (grind arith);
    }

pub judge_tree-requires : goal.judge_tree-requires
judge_tree-requires c =
    let pre = c.requires in
    let at = goal.at.judge_tree-requires c in
    let at-start = pre.plan.at-start in
    tree-given _ pre.valid _ at-start (unrepeated at.In_default _ at-start)
    (right at.In_default-first_wrong_list _ at-start) c.args.parents.now refl
    (omega (arith, pre.long)) (c.first_wrong_list.ensures.stores c.in_default-first_wrong_list.is)
    (omega (arith, pre.long))

pub returns : goal.returns
returns c =
    let pre = c.requires in
    let at = goal.at.returns c in
    let stored = c.first_wrong_list.ensures.stores c.in_default-first_wrong_list.is in
    record {
      answers = λ plan at-start. left-to-tree _ pre.valid plan at-start (unrepeated at.In_default plan at-start)
          (right at.In_default-first_wrong_list plan at-start)
          c.args.parents.now refl (omega (arith, pre.long)) stored c.judge_tree.ensures;
      stores = λ z. stored;
    }
