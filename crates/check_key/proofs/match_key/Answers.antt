-- Proves that `match_key` compares edition and n, then mark and limit, then the lists: the first byte that differs is the one that refusal 11 names.
-- Assumes nothing.
use mathlib.Core.Path.{◌∙◌}
use native.Mathlib.Omega.{arith}
use Rattle.job.specs.Given.{job_given}
use Rattle.column_laws.proofs.Testing.{tested}
use Rattle.key.proofs.Written.{numbers_fit}
use Rattle.refusals.proofs.Passed.{handed-on}
use Rattle.check_key.proofs.Keys.{size-differs, behind-size, mark-differs, behind-mark, lists-found}
use Rattle.check_key.proofs.match_key.Goals as goal

pub returns-in_err-middle : goal.returns-in_err-middle
returns-in_err-middle c =
    handed-on _ c.from_residual.ensures.1 ∙ size-differs (job_given c.args.job) _ c.match_two.ensures c.in_err-middle.was

pub match_two-requires-2 : goal.match_two-requires-2
match_two-requires-2 c =
    let job = job_given c.args.job in
    let fit = numbers_fit job c.requires in
    record {
      first_fits = omega arith;
      second_fits = omega arith;
      inside = (behind-size job _ c.match_two.ensures c.in_ok-middle.was).inside;
    }

pub returns-in_err-next : goal.returns-in_err-next
returns-in_err-next c =
    handed-on _ c.from_residual-in_err-next.ensures.1
    ∙ mark-differs (job_given c.args.job) _ c.match_two.ensures c.in_ok-middle.was c.match_two-2.ensures c.in_err-next.was

pub match_lists-requires : goal.match_lists-requires
match_lists-requires c =
    let job = job_given c.args.job in
    record {
      inside = (behind-mark job _ c.match_two.ensures c.in_ok-middle.was c.match_two-2.ensures c.in_ok-next.was).inside;
      tested = tested job c.requires;
    }

pub returns : goal.returns
returns c =
    lists-found (job_given c.args.job) _ c.match_two.ensures c.in_ok-middle.was c.match_two-2.ensures c.in_ok-next.was c.match_lists.ensures
