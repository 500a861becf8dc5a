-- `put_closing` meets its contract. Assumes nothing.
use Rattle.print.proofs.Texts.{put_then}
use Rattle.print.proofs.closing.put_closing.Goals as goal

pub returns-in-Lodged : goal.returns-in-Lodged
returns-in-Lodged c =
    rw c.in-Lodged.is (put_then c.put_text-a.ensures c.put_order_name.ensures)

pub returns-in-NotLodged : goal.returns-in-NotLodged
returns-in-NotLodged c = rw c.in-NotLodged.is c.put_text.ensures

pub returns-in-Unclear : goal.returns-in-Unclear
returns-in-Unclear c = rw c.in-Unclear.is c.put_text-in-Unclear.ensures

pub returns-in-Fetched : goal.returns-in-Fetched
returns-in-Fetched c = rw c.in-Fetched.is c.put_text-in-Fetched.ensures

pub returns-in-HeldUnconfirmed : goal.returns-in-HeldUnconfirmed
returns-in-HeldUnconfirmed c = rw c.in-HeldUnconfirmed.is c.put_text-in-HeldUnconfirmed.ensures

pub returns-in-NotFetched : goal.returns-in-NotFetched
returns-in-NotFetched c = rw c.in-NotFetched.is c.put_text-in-NotFetched.ensures
