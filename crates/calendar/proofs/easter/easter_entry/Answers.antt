-- "all 230 entries agree with the Gregorian computus": one test, over the constant's own list. Assumes nothing.
use Prim.Native.Nat.{◌+◌}
use mathlib.Core.Path.{refl}
use Rattle.calendar.specs.Dates.{first_year, year_count}
use Rattle.calendar.specs.Easter.{letter_h, letter_l, letter_m, easter_sunday, easter_entry}
use Rattle.calendar.proofs.Tables.{entry-of, agreed}
use Rattle.calendar.proofs.easter.easter_entry.Goals as goal

pub returns : goal.returns
unfolding easter_entry easter_sunday letter_h letter_l letter_m
returns c = rw entry-of (agreed (λ k. easter_entry (first_year + k)) year_count _ refl c.args.years c.requires)
