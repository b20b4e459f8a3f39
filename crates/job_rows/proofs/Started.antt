-- Proves that starts without a fault pass their test, so that the test of the rows may follow.
-- Assumes nothing.
use Rattle.std.proofs.Common.{ℕ, ◌≤◌, ◌≡◌, List, sym}
use Rattle.papers.specs.Bounds.{max_columns}
use Rattle.papers.specs.Refusals.{passed}
use Rattle.job_laws.specs.Passed.{starts_test}
use Rattle.job_rows.specs.Started.{Started}

pub started : {n : ℕ} {starts rows : List ℕ} → n ≤ max_columns → passed ≡ starts_test n starts rows → Started n starts rows
started few e = record { few = few; starts-pass = sym e }
