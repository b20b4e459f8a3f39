-- Proves that `write_key` answers right: one law covers a refused job, and one a stored key.
-- Assumes nothing.
use Rattle.std.proofs.Common.{refl, sym, ◌∙◌}
use Rattle.papers.specs.Job.{job_of}
use Rattle.papers.specs.Key.{key_of}
use Rattle.job_laws.proofs.Passed.{passes-iff}
use Rattle.key.proofs.Written.{key-refused, key-stored}
use Rattle.key.proofs.write_key.Goals as goal

pub returns-in-Err : goal.returns-in-Err
returns-in-Err c = rw c.from.ensures (key-refused _ _ c.in-Err.ensures refl)

pub put_key-needed-requires : goal.put_key-needed-requires
put_key-needed-requires c = (passes-iff _).0 (sym c.in_default.ensures)

pub returns : goal.returns
returns c =
    let job = job_of c.args.head c.args.starts.now c.args.rows.now in
    let passed = (passes-iff job).0 (sym c.in_default.ensures) in
    rw c.answer.ensures (c.finish.ensures (key_of job) c.args.bytes.now c.put_key-needed.ensures ∙ sym
    (key-stored job c.args.bytes.now passed))
