-- What lines meet is what a session is asked besides its images. Assumes nothing.
use mathlib.Core.List.{List, [], ◌∷◌}
use mathlib.Core.Path.{refl, sym, subst}
use Rattle.exchange.specs.Course.{
  Call,
  frame_arrives,
  file_put,
  begins,
  reply_arrives,
  no_reply,
  journal_handed,
  puts_away,
  takes_up,
  Course,
  start,
}
use Rattle.exchange_lines.specs.Lines.{Net, fresh_net, Move, call_of, next}
use Rattle.exchange_lines.specs.Lines as lines
use Rattle.exchange_lines.specs.Claims.{of_call, Copied, PremisesMet}
use Rattle.exchange_lines.specs.Claims as claims
use Rattle.exchange_lines.proofs.Theorem.{premises-met}
use Rattle.sessions.specs.Sessions.{Copy, AtEach}
use Rattle.sessions_lines.specs.SessionsOverLines.{Resumed, SessionsOverLines}

copy : (k : Call) (s : Course) → Copied k s → Resumed k s → Copy k s
copy (frame_arrives m a) s c r = c
copy (file_put rows mailboxes m file) s c r = c
copy (begins i d params l) s c r = c
copy (reply_arrives i d bytes l) s c r = c
copy (no_reply i d l) s c r = c
copy (journal_handed i d row) s c r = c
copy (puts_away m buffer) s c r = c
copy (takes_up m image) s c r = r m image refl

each_copy : (ms : List Move) (n : Net) → claims.AtEach (of_call Copied) ms n → AtEach Resumed (lines.calls_of ms) n.course →
    AtEach Copy (lines.calls_of ms) n.course
unfolding next
each_copy [] n c r = tt
each_copy (m ∷ ms) n c r = (λ z. copy (call_of m) n.course (c.0 z) (r.0 z), each_copy ms (next m n) c.1 r.1)

pub sessions-over-lines : SessionsOverLines
unfolding SessionsOverLines PremisesMet fresh_net
sessions-over-lines seeds rs ms e o images =
    subst (λ (ks : List Call). AtEach Copy ks start) e
    (each_copy ms (fresh_net seeds) (premises-met seeds ms o) (subst (λ (ks : List Call). AtEach Resumed ks start) (sym e) images))
