-- Proves that `print_job` prints a job, since zeroed slices of the program's sizes are the program's buffers.
-- Assumes nothing.
use native.Mathlib.Omega.{arith}
use Rattle.listing.proofs.Told.{fits_in, printed-in}
use Rattle.listing.proofs.print_job.Goals as goal

pub print_analysis-requires : goal.print_analysis-requires
print_analysis-requires c = record { wide = omega (arith, c.requires.columns); fits = fits_in _ c.requires.fits }

pub returns : goal.returns
returns c = printed-in _ c.print_analysis.ensures
