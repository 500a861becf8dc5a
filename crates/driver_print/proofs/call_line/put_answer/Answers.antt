-- `put_answer` meets its contract. Assumes nothing.
use native.Mathlib.Omega.{arith}
use mathlib.Core.Path.{ap}
use lib.ListN.{length, length-take}
use Rattle.print.proofs.Texts.{put-nothing, put_then}
use Rattle.driver_print.proofs.call_line.put_answer.Goals as goal

pub put_named-requires : goal.put_named-requires
put_named-requires c = omega (arith, simp length-take at (ap length c.front.ensures))

pub put_named-requires-in-Request : goal.put_named-requires-in-Request
put_named-requires-in-Request c = omega (arith, simp length-take at (ap length c.front-in-Request.ensures))

pub put_out-requires : goal.put_out-requires
put_out-requires c = omega (arith, simp length-take at (ap length c.front-in-OutAndHeld.ensures))

pub returns-in-Frame : goal.returns-in-Frame
returns-in-Frame c =
    rw (c.in-Frame.is, ← c.front.ensures) c.put_named.ensures

pub returns-in-Put : goal.returns-in-Put
returns-in-Put c = rw c.in-Put.is c.put_text.ensures

pub returns-in-Request : goal.returns-in-Request
returns-in-Request c =
    rw (c.in-Request.is, ← c.front-in-Request.ensures) c.put_named-in-Request.ensures

pub returns-in-Ignored : goal.returns-in-Ignored
returns-in-Ignored c = rw c.in-Ignored.is c.put_text-in-Ignored.ensures

pub returns-in-Closed : goal.returns-in-Closed
returns-in-Closed c =
    let told = c.in-Closed.is in
    rw told (put_then c.put_text-a.ensures c.put_closing.ensures)

pub returns-in-Unchanged : goal.returns-in-Unchanged
returns-in-Unchanged c = rw c.in-Unchanged.is c.put_text-in-Unchanged.ensures

pub returns-in-Away : goal.returns-in-Away
returns-in-Away c =
    rw c.in-Away.is c.put_away.ensures

pub returns-in-TakenUp : goal.returns-in-TakenUp
returns-in-TakenUp c = rw c.in-TakenUp.is c.put_text-in-TakenUp.ensures

pub returns-in-Room : goal.returns-in-Room
returns-in-Room c = rw c.in-Room.is c.put_text-in-Room.ensures

pub returns-in-Day : goal.returns-in-Day
returns-in-Day c =
    let told = c.in-Day.is in
    rw told (put_then c.put_text-a-in-Day.ensures c.put_day.ensures)

pub returns-in-Line : goal.returns-in-Line
returns-in-Line c = rw c.in-Line.is c.put_text-in-Line.ensures

pub returns-in-Out : goal.returns-in-Out
returns-in-Out c =
    let told = c.in-Out.is in
    rw told (put_then c.put_text-a-in-Out.ensures c.put_decimal.ensures)

pub returns-in-OutAndHeld : goal.returns-in-OutAndHeld
returns-in-OutAndHeld c =
    rw (c.in-OutAndHeld.is, ← c.front-in-OutAndHeld.ensures) c.put_out.ensures

pub returns-in-Counted : goal.returns-in-Counted
returns-in-Counted c =
    let told = c.in-Counted.is in
    rw told (put_then c.put_text-a-in-Counted.ensures c.put_counts.ensures)

pub returns-in-Number : goal.returns-in-Number
returns-in-Number c =
    let told = c.in-Number.is in
    rw told (put_then c.put_text-a-in-Number.ensures c.put_decimal-in-Number.ensures)

pub returns-in-NoCall : goal.returns-in-NoCall
returns-in-NoCall c = rw c.in-NoCall.is (put-nothing _ _ (omega arith))
