-- `put_stage` meets its contract. Assumes nothing.
use native.Mathlib.Omega.{arith}
use Rattle.print.proofs.Texts.{put-nothing}
use Rattle.driver_print.proofs.tables.put_stage.Goals as goal

pub returns-in-NotBegun : goal.returns-in-NotBegun
returns-in-NotBegun c = rw c.in-NotBegun.is (put-nothing _ _ (omega arith))

pub returns-in-Running : goal.returns-in-Running
returns-in-Running c = rw c.in-Running.is c.put_text.ensures

pub returns-in-Ended : goal.returns-in-Ended
returns-in-Ended c = rw c.in-Ended.is c.put_closing.ensures
