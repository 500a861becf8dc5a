-- The counts that a host is told of the session that it keeps: none of its numbers is turned away, and they are those of
-- its calls. Assumes nothing.
use Rattle.std.specs.Prelude.{Ok}
use mathlib.Core.List.{List}
use mathlib.Core.Path.{ap, ◌∙◌}
use lib.ListN.{length}
use borrow.Author.Tests.{eq-eqb}
use Rattle.opening_counts.specs.declared.seven.Counts.{Counts}
use Rattle.bank_session.specs.Session.{LentSession, session_size, count_call}
use Rattle.bank_session.proofs.Session.{takes-counts}
use Rattle.image_admitted.proofs.Holds.{lengths-told}
use Rattle.image_admitted.proofs.Theorems.{admitted-sound, admitted-takes}
use Rattle.bank_resumed.specs.Calls.{HostCall}
use Rattle.bank_resumed.specs.Host.{Keeps, Reported}
use Rattle.bank_resumed.proofs.Bank.{resumed-bank}
use Rattle.bank_resumed.proofs.Guards.{keeps-covered}

pub keeps-reported : {m : LentSession} {ks : List HostCall} → Keeps m ks → Reported m ks
unfolding count_call
keeps-reported {m} {ks} k =
    let c = keeps-covered k in
    let right = c.admitted.0 in
    rw (
      eq-eqb (length m.rows) session_size (lengths-told m right).rows,
      admitted-sound m right c.admitted.1,
      takes-counts m (admitted-takes m right c.admitted.1),
    ) (ap (λ (n : Counts). Ok n) (c.standing.2 ∙ (resumed-bank c.allowed).counted))
