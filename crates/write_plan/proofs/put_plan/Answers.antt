-- Proves that `put_plan` writes the plan part by part: behind each part a known rest is left, at a small place, and behind the peak nothing.
-- Assumes nothing.
use native.Mathlib.Omega.{arith}
use Rattle.write_plan.proofs.Planned.{few, place-near, behind-key, behind-steps, behind-lists, plan-put}
use Rattle.write_plan.proofs.put_plan.Goals as goal

pub write_steps-steps-requires : goal.write_steps-steps-requires
write_steps-steps-requires c =
    let w = c.requires in
    record {
      paired = omega (arith, w.all-steps, w.all-pops);
      few = omega (arith, w.all-steps, few w);
      near = place-near w (behind-key _ _ _ _ _ _ _ c.put_key-key.ensures);
    }

pub write_lists-lists-requires : goal.write_lists-lists-requires
write_lists-lists-requires c =
    let w = c.requires in
    record {
      few = few w;
      starts-pass = w.starts-pass;
      rows_pass = w.rows_pass;
      near = omega (
        arith,
        place-near w (behind-steps _ _ _ _ _ _ _ c.put_key-key.ensures c.write_steps-steps.ensures),
      );
    }

pub put-requires : goal.put-requires
put-requires c =
    let w = c.requires in
    record {
      fits = omega (arith, w.declared);
      near = omega (
        arith,
        place-near w (behind-lists _ _ _ _ _ _ _ c.put_key-key.ensures c.write_steps-steps.ensures
            c.write_lists-lists.ensures),
      );
    }

pub returns : goal.returns
returns c =
    plan-put _ _ _ _ _ _ _ c.put_key-key.ensures c.write_steps-steps.ensures
    c.write_lists-lists.ensures c.put.ensures
