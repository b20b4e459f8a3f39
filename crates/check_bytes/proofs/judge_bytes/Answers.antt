-- Proves that `judge_bytes` answers right: 11 if the plan's bytes do not begin with the key; else the bytes behind the key are read into the cleared
-- slices and judged. Each way out is one way through the papers' tests (`Rules`).
-- Assumes nothing.
use Rattle.std.proofs.Common.{refl, sym, arith}
use Rattle.papers.specs.Job.{Job}
use Rattle.papers.specs.Analysis.{Lent}
use Rattle.job.specs.Given.{job_given}
use Rattle.lent.specs.Six.{six_slices}
use Rattle.refusals.proofs.Passed.{handed-on}
use Rattle.check_bytes.proofs.Rules.{Begun, ruled-key, plan-asked, ruled-faulty, ruled-rows, judgeable, ruled-judged}
use Rattle.check_bytes.proofs.judge_bytes.Goals as goal
use Rattle.check_bytes.proofs.judge_bytes.Goals.{In_ok-next}

-- the job, and the slices as they are lent
abbrev job : In_ok-next → Job
job c = job_given c.args.job

abbrev lent : In_ok-next → Lent
lent c =
    six_slices c.args.parents.now c.args.order.now c.args.pops.now c.args.fstarts.now c.args.frows.now c.args.work.now

-- what is known once the plan is found to begin with the key
begun : (c : In_ok-next) → Begun (job c) c.args.plan.now (lent c) c.in_ok-next.next
begun c = record {
  asked = c.requires;
  begins = sym c.in_ok-next.ensures;
  each-byte = λ i. omega (arith, c.type_inv.plan i);
}

-- the bytes do not begin with the key: 11
pub returns-in_err-next : goal.returns-in_err-next
returns-in_err-next c =
    rw (handed-on c.from_residual.result c.from_residual.ensures.1) (ruled-key c.requires c.in_err-next.ensures refl)

-- the cleared slices have room for a plan's steps and starts
pub read_plan-requires : goal.read_plan-requires
read_plan-requires c = plan-asked (begun (goal.at.read_plan-requires c).In_ok-next) c.clear_all.ensures

-- the bytes behind the key are at fault
pub returns-in_err-found : goal.returns-in_err-found
returns-in_err-found c =
    rw (handed-on c.from_residual-in_err-found.result c.from_residual-in_err-found.ensures.1)
    (ruled-faulty (begun (goal.at.returns-in_err-found c).In_ok-next) c.clear_all.ensures _ c.in_err-found.ensures)

-- its rows do not fit
pub returns-then-frows-found : goal.returns-then-frows-found
returns-then-frows-found c =
    rw c.refuse.ensures (ruled-rows (begun (goal.at.returns-then-frows-found c).In_ok-next) c.clear_all.ensures c.in_ok-found.ensures
    c.if-frows-found.true)

-- what was read can be judged in its slices
pub judge-requires : goal.judge-requires
judge-requires c =
    judgeable (begun (goal.at.judge-requires c).In_ok-next) c.clear_all.ensures c.in_ok-found.ensures c.if-frows-found.false (record {
      parents = refl;
      order = omega arith;
      pops = omega arith;
      starts = omega arith;
      rows = omega arith;
      work = refl;
    })

-- the judgement decides
pub returns : goal.returns
returns c =
    ruled-judged (begun (goal.at.returns c).In_ok-next) c.clear_all.ensures c.in_ok-found.ensures c.if-frows-found.false
    c.judge.ensures.answers c.judge.ensures.stores
