-- Proves that `put_key` writes the key number by number: behind each, a known rest is left, and behind the lists nothing. The places stay small,
-- since a key has few enough numbers and each has few bytes.
-- Assumes nothing.
use native.Mathlib.Omega.{arith}
use Rattle.job.specs.Given.{job_given}
use Rattle.job_laws.specs.Passed.{Passed}
use Rattle.job_laws.proofs.Passed.{lists-iff}
use Rattle.key.proofs.Written.{numbers_fit, key-near, behind-edition, behind-n, behind-mark, behind-limit, key-put}
use Rattle.key.proofs.put_key.Goals as goal
use Rattle.key.proofs.put_key.Goals.{Start}

-- the job passes its tests
valid : (c : Start) → Passed (job_given c.args.job)
valid c = c.requires

pub put-n-requires : goal.put-n-requires
put-n-requires c =
    record {
      fits = omega (arith, numbers_fit _ (valid (goal.at.put-n-requires c).Start));
      near = omega (arith, key-near _ _ (valid (goal.at.put-n-requires c).Start) (behind-edition _ _ c.put-edition.ensures));
    }

pub put-mark-requires : goal.put-mark-requires
put-mark-requires c =
    record {
      fits = omega (arith, numbers_fit _ (valid (goal.at.put-mark-requires c).Start));
      near = omega (arith, key-near _ _ (valid (goal.at.put-mark-requires c).Start) (behind-n _ _ c.put-edition.ensures c.put-n.ensures));
    }

pub put-limit-requires : goal.put-limit-requires
put-limit-requires c =
    record {
      fits = omega (arith, numbers_fit _ (valid (goal.at.put-limit-requires c).Start));
      near = omega (
        arith,
        key-near _ _ (valid (goal.at.put-limit-requires c).Start) (behind-mark _ _ c.put-edition.ensures c.put-n.ensures
            c.put-mark.ensures),
      );
    }

pub write_lists-requires : goal.write_lists-requires
write_lists-requires c =
    let tests = (lists-iff _ _ _).1 (valid (goal.at.write_lists-requires c).Start).lists in
    record {
      few = (valid (goal.at.write_lists-requires c).Start).few;
      starts-pass = tests.0;
      rows_pass = tests.1;
      near = key-near _ _ (valid (goal.at.write_lists-requires c).Start) (behind-limit _ _ c.put-edition.ensures c.put-n.ensures
          c.put-mark.ensures c.put-limit.ensures);
    }

pub returns : goal.returns
returns c =
    key-put _ _ c.put-edition.ensures c.put-n.ensures c.put-mark.ensures
    c.put-limit.ensures c.write_lists.ensures
