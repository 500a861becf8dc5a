-- Document 02, card 9, of the unit: a session's records whose messages go over lines copy requests and replies.
use Rattle.std.specs.Prelude.{ℕ, ◌≡◌}
use mathlib.Core.List.{List, Memᴰ as In}
use Rattle.bank_session.specs.Session.{LentSession}
use Rattle.exchange.specs.Course.{Call, takes_up, Course, start}
use Rattle.exchange_lines.specs.Lines.{Seeds, fresh_net, Move}
use Rattle.exchange_lines.specs.Lines as lines
use Rattle.exchange_lines.specs.Claims.{OverLine}
use Rattle.exchange_lines.specs.Claims as claims
use Rattle.sessions.specs.Sessions.{fresh_unit, calls_of, Copy, AtEach}

-- card 2's: an image taken up is one written since the bank's last frame or file call given no number
abbrev pub Resumed : Call → Course → Type 0
Resumed k s = (m : LentSession) (image : List ℕ) → k ≡ takes_up m image → In image s.images

-- the records' calls, of each frame said which run's line it came out of: what `SessionsClose`, `LodgedNamed` and
-- `UnitBook` ask of copies holds of them
unfoldable pub SessionsOverLines : Type 0
SessionsOverLines = (seeds : Seeds) (rs : List (List ℕ)) (ms : List Move) → lines.calls_of ms ≡ calls_of fresh_unit rs →
    claims.AtEach OverLine ms (fresh_net seeds) → AtEach Resumed (calls_of fresh_unit rs) start →
    AtEach Copy (calls_of fresh_unit rs) start
