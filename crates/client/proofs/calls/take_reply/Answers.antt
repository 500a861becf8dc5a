-- What `take_reply` reads is what `carry_out` is given, so the decision is the reply's. Assumes nothing.
use mathlib.Core.Logic.{inl}
use Rattle.client.proofs.calls.take_reply.Goals as goal

pub carry_out-requires : goal.carry_out-requires
carry_out-requires c =
    (inl c.on_reply-decision.ensures, c.requires.0, c.requires.1)

pub returns : goal.returns
returns c =
    rw (← c.read_reply-r.ensures, ← c.data-d.ensures, ← c.on_reply-decision.ensures)
    c.carry_out.ensures
