-- The return code of a reply that was written: that of its fields, as a reader finds it. Assumes nothing.
use Prim.Native.Nat.{ℕ}
use mathlib.Core.List.{List}
use mathlib.Core.Path.{◌≡◌, ap}
use lib.ListN.{length}
use Rattle.frame_table.specs.declared.fields.Fields.{Fields}
use Rattle.frame_table.specs.Names.{return_code}
use Rattle.frame_writer.specs.Writer.{frame_of, write_answer, write_buffer}
use Rattle.frame_writer.proofs.Written.{accepted-written}
use Rattle.frame.proofs.RoundTrip.{Sized}
use Rattle.frame.proofs.Theorems.{reply-read}
use Rattle.bank.specs.Call.{answer_of, reply_code, Sendable}

-- what was written is read back
pub written-code : (f : Fields) (d old : List ℕ) → Sized f → Sendable f d old →
    reply_code (answer_of (write_answer f d old)) (write_buffer f d old) ≡ return_code f
written-code f d old long can =
    let w = (accepted-written f d old can.0).0 in
    rw w (ap return_code (reply-read f d old (length (frame_of f d)) long w can.1))
