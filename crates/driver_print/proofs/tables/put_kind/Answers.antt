-- Kind by kind. Assumes nothing.
use native.Mathlib.Omega.{arith}
use Rattle.print.proofs.Texts.{put-nothing}
use Rattle.driver_print.proofs.tables.put_kind.Goals as goal

pub returns-in-Unused : goal.returns-in-Unused
returns-in-Unused c = rw c.in-Unused.is (put-nothing _ _ (omega arith))

pub returns-in-Opened : goal.returns-in-Opened
returns-in-Opened c = rw c.in-Opened.is c.put_text.ensures

pub returns-in-Booked : goal.returns-in-Booked
returns-in-Booked c = rw c.in-Booked.is c.put_text-in-Booked.ensures

pub returns-in-Cancelled : goal.returns-in-Cancelled
returns-in-Cancelled c = rw c.in-Cancelled.is c.put_text-in-Cancelled.ensures

pub returns-in-Dropped : goal.returns-in-Dropped
returns-in-Dropped c = rw c.in-Dropped.is c.put_text-in-Dropped.ensures

pub returns-in-Signed : goal.returns-in-Signed
returns-in-Signed c = rw c.in-Signed.is c.put_text-in-Signed.ensures
