-- What was written is read back, so the code carried beside it is the reply's. Assumes nothing.
use Rattle.std.specs.Prelude.{Ok}
use mathlib.Core.Path.{sym, ap, ◌∙◌}
use Rattle.frame.proofs.RoundTrip.{Sized}
use Rattle.frame_writer.proofs.Written.{accepted-written}
use Rattle.bank.proofs.Codes.{written-code}
use Rattle.bank.proofs.call.reply_with.Goals as goal

pub write_accepted-n-requires : goal.write_accepted-n-requires
write_accepted-n-requires c = c.requires.0

pub returns : goal.returns
returns c =
    let long : Sized c.args.fields = let g = c.well_formed.0.1.1.1 in (
      g.0.1.0.1,
      g.1.0.1.0.1,
    ) in
    let a = c.args in
    let wrote = c.write_accepted-n.ensures in
    let w = accepted-written a.fields a.bytes.now a.buffer.now c.requires.0 in
    record {
      answered = rw w.0 (ap Ok wrote.0);
      written = wrote.1 ∙ sym w.1;
      coded =
          c.return_code.ensures
          ∙ sym (written-code a.fields a.bytes.now a.buffer.now (long) c.requires);
    }
