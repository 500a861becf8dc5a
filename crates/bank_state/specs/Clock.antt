-- "A call first sets the clock": the clock, the drops, and the nonces remembered; and the downloads that end.
use Rattle.std.specs.Prelude.{ℕ, zero, suc, ◌+◌, max, Bool, not, cond, ◌&&◌, List, ltb, leb, eqb}
use Rattle.bank_state.specs.declared.clock.Ended.{Ended}
use Rattle.bank_state.specs.declared.clock.Ended.TheVariants.{Idle, Mailbox, Transaction}
use Rattle.bank_state.specs.declared.state.Download.{Download}
use Rattle.bank_state.specs.State.{Nonce}
use Rattle.bank_state.specs.State.{Bank}
use Rattle.bank_state.specs.Limits.{place_count, idle_limit, window}
use Rattle.bank_state.specs.Rows.{keep_only}
use Rattle.bank_state.specs.Search.{is_open, is_download}
use Rattle.bank_state.specs.State.{BankState, bank_state, no_place, no_download, no_nonce, with_clock, with_place}
use Rattle.bank_state.specs.State.{with_downloads, with_nonces, place_at}
use Rattle.bank_state.specs.Store.{zeroed}

-- a time that is more than this many milliseconds behind the clock
abbrev pub is_behind : ℕ → ℕ → ℕ → Bool
is_behind clock time limit = ltb (time + limit) clock

-- "whose last fitting request (its opening included) is more than the idle limit old"
unfoldable pub is_idle : ℕ → ℕ → Bool
is_idle clock last = is_behind clock last idle_limit

-- "place zeroed and freed"
unfoldable pub freed : ℕ → BankState → BankState
freed i w = bank_state (with_place i no_place w.bank) (zeroed w.orders i) w.mailboxes

-- "a dropped upload's place is zeroed and freed"
unfoldable pub drop_upload : ℕ → BankState → BankState
drop_upload i w = cond (is_open (place_at w.bank i).used && is_idle w.bank.clock (place_at w.bank i).last)
    (freed i w) w

-- the idle uploads of the first n places dropped
unfoldable pub drop_uploads : ℕ → BankState → BankState
drop_uploads zero w = w
drop_uploads (suc n) w = drop_upload n (drop_uploads n w)

-- which downloads end: those idle at this clock, "every download of that mailbox", "this transaction"
unfoldable pub ends : Ended → Download → Bool
ends (Idle clock) e = is_idle clock e.last
ends (Mailbox subscriber) e = eqb e.subscriber subscriber
ends (Transaction subscriber id) e = is_download subscriber id e

-- the other open downloads, in the order of their openings
unfoldable pub end_downloads : Ended → List Download → List Download
end_downloads which l = keep_only (λ (e : Download). e.used && not (ends which e)) no_download l

-- "remembered ... while its timestamp is at most the window behind the clock"
unfoldable pub forget : ℕ → List Nonce → List Nonce
forget clock l = keep_only (λ (e : Nonce). e.used && leb clock (e.timestamp + window)) no_nonce l

-- the state at a clock, but for its uploads
unfoldable pub at_clock : ℕ → Bank → Bank
at_clock clock b = with_nonces (forget clock b.nonces)
    (with_downloads (end_downloads (Idle clock) b.downloads) (with_clock clock b))

-- "A call first sets the clock to the larger of its old value and the time given. Then it drops every transaction ..."
unfoldable pub advanced : ℕ → BankState → BankState
advanced time w = drop_uploads place_count
    (bank_state (at_clock (max w.bank.clock time) w.bank) w.orders w.mailboxes)
