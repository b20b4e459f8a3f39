-- Proves that `judge_tree` answers right: each test refuses, or its passing gives what the next one requires. In an order with whole subtrees and
-- right pops no step pops more than is held.
-- Assumes nothing.
use Rattle.std.proofs.Common.{◌≡◌, arith}
use Rattle.papers.specs.Check.{pops_wrong, subtree_scattered}
use Rattle.papers.specs.Refusals.{passed}
use Rattle.papers.specs.Job.{Job}
use Rattle.papers.specs.Plan.{Plan}
use Rattle.check_judge.specs.Judged.{OnTree, plan_from}
use Rattle.check_judge.proofs.OnTrees.{few, tree-in, as_long, pops-as-long, each-once, within-order}
use Rattle.check_judge.proofs.Trees.{refuses-18, passes-18, refuses-19, passes-19, stepped, refuses-20, refuses-9, passes-all}
use Rattle.check_judge.proofs.judge_tree.Goals as goal
use Rattle.check_judge.proofs.judge_tree.Goals.{In_default, In_default-first_wrong_pops}

-- ---- what the tests passed so far say of any plan that the slices hold

whole : (c : In_default) {job : Job} {plan : Plan}
    → OnTree job plan c.args.limit c.args.peak c.args.parents.now c.args.order.now c.args.pops.now c.args.fstarts.now
    → subtree_scattered.test (plan_from job plan) ≡ passed
whole c on = passes-18 on c.first_scattered.ensures c.in_default.is

popped : (c : In_default-first_wrong_pops) {job : Job} {plan : Plan}
    → OnTree job plan c.args.limit c.args.peak c.args.parents.now c.args.order.now c.args.pops.now c.args.fstarts.now
    → pops_wrong.test (plan_from job plan) ≡ passed
popped c on = passes-19 on (passes-18 on c.first_scattered.ensures c.in_default.is) c.first_wrong_pops.ensures c.in_default-first_wrong_pops.is

pub first_scattered-requires : goal.first_scattered-requires
first_scattered-requires c =
    let on = c.requires.plan.on in
    record { tree = tree-in on; few = few on; each = each-once on; long = as_long on; room = c.requires.room }

pub returns-in-Some : goal.returns-in-Some
returns-in-Some c = λ job plan on. refuses-18 on c.first_scattered.ensures c.in-Some.is (grind arith)

pub first_wrong_pops-requires : goal.first_wrong_pops-requires
first_wrong_pops-requires c =
    let on = c.requires.plan.on in record {
      tree = tree-in on;
      columns = within-order on;
      order-length = as_long on;
      pops_length = pops-as-long on;
      few = few on;
      room = omega arith;
    }

pub returns-in-Some-first_wrong_pops : goal.returns-in-Some-first_wrong_pops
returns-in-Some-first_wrong_pops c = λ job plan on.
    refuses-19 on (whole (goal.at.returns-in-Some-first_wrong_pops c).In_default on) c.first_wrong_pops.ensures
    c.in-Some-first_wrong_pops.is (grind arith)

pub peak-true_peak-requires : goal.peak-true_peak-requires
peak-true_peak-requires c =
    let on = c.requires.plan.on in
    let at = goal.at.peak-true_peak-requires c in
    record {
      stepped = stepped on (whole at.In_default on) (popped at.In_default-first_wrong_pops on);
      room = omega (arith, as_long on);
    }

pub returns-then-true_peak-peak : goal.returns-then-true_peak-peak
returns-then-true_peak-peak c = λ job plan on.
    let at = goal.at.returns-then-true_peak-peak c in
    refuses-20 on (whole at.In_default on) (popped at.In_default-first_wrong_pops on)
    c.peak-true_peak.ensures c.if-true_peak-peak.true (grind arith)

pub returns-then-limit-true_peak : goal.returns-then-limit-true_peak
returns-then-limit-true_peak c = λ job plan on.
    let at = goal.at.returns-then-limit-true_peak c in
    refuses-9 on (whole at.In_default on) (popped at.In_default-first_wrong_pops on)
    c.peak-true_peak.ensures c.if-true_peak-peak.false c.if-limit-true_peak.true (grind arith)

pub returns : goal.returns
returns c = λ job plan on.
    let at = goal.at.returns c in
    passes-all on (whole at.In_default on) (popped at.In_default-first_wrong_pops on)
    c.peak-true_peak.ensures c.if-true_peak-peak.false c.if-limit-true_peak.false (grind arith)
