-- Uploads and downloads together.
use native.Mathlib.Omega.{arith}
use Rattle.bank_clock.specs.Idle.{idle_count}
use Rattle.bank_clock.proofs.idle.idle_count.Goals as goal

pub overflow_add-result : goal.overflow_add-result
overflow_add-result c = omega (arith, c.idle_uploads.ensures.0, c.idle_downloads.ensures.0)

pub returns : goal.returns
unfolding idle_count
returns c = omega (arith, c.idle_uploads.ensures.1, c.idle_downloads.ensures.1)
