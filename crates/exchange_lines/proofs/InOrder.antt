-- The narrow reading is covered: the next message of a line is one that came out of it. Assumes nothing.
use Prim.Native.Nat.{ℕ, zero, suc, ◌<◌}
use mathlib.Core.List.Memᴰ.{head as here}
use mathlib.Core.List.Memᴰ.{tail as there}
use mathlib.Core.List.{List, [], ◌∷◌, Memᴰ as In}
use mathlib.Core.Path.{refl, subst}
use native.Mathlib.Omega.{arith}
use lib.ListN.{length, get_or}
use Rattle.line.specs.Line.{Message}
use Rattle.exchange_lines.specs.Lines.{InUse, Lines, Net, fresh_net, Move, Passed, request, reply, stray, none, passed, next}
use Rattle.exchange_lines.specs.Claims.{AtEach, IsOut, OverLine}
use Rattle.exchange_lines.specs.InOrder.{Handed, none_handed, handed_after, FirstLeft, IsNext, AllNext, OnceInOrder}

in_place : (k : ℕ) (l : List Message) → k < length l → In (get_or l k []) l
in_place k [] h = absurd (omega arith)
in_place zero (m ∷ l) h = here refl
in_place (suc k) (m ∷ l) h = there (in_place k l (omega arith))

first_out : (k : ℕ) (m : Message) (u : InUse) → FirstLeft k m u → In m u.out
first_out k m u (h, e) = subst (λ (x : Message). In x u.out) e (in_place k u.out h)

next-out : (p : Passed) (h : Handed) (ls : Lines) → IsNext p h ls → IsOut p ls
next-out (request i m) h ls o = first_out (h.requests i) m (ls.requests i) o
next-out (reply i m) h ls o = first_out (h.replies i) m (ls.replies i) o
next-out (stray m) h ls o = o
next-out none h ls o = o

all-next-out : (h : Handed) (ms : List Move) (n : Net) → AllNext h ms n → AtEach OverLine ms n
all-next-out h [] n o = tt
all-next-out h (m ∷ ms) n o =
    (λ z. next-out (passed m) h n.lines (o.0 z), all-next-out (handed_after m h) ms (next m n) o.1)

pub once-in-order : OnceInOrder
unfolding OnceInOrder
once-in-order seeds ms o = all-next-out none_handed ms (fresh_net seeds) o
