-- What a call moves, as equations: the open ones, and the sum, which grows by one at an opening and else stays, given
-- that nothing falls below 0. Assumes nothing.
use Prim.Native.Nat.{ℕ, ◌+◌, ◌≤◌}
use mathlib.Core.Path.{◌≡◌}
use native.Mathlib.Omega.{arith}
use Rattle.bank_verdicts.specs.declared.verdict.UploadAction.TheVariants as up
use Rattle.bank_verdicts.specs.declared.verdict.DownloadAction.TheVariants as down
use Rattle.bank_verdicts.specs.declared.verdict.Action.{Action}
use Rattle.bank_verdicts.specs.declared.verdict.Action.TheVariants as action
use Rattle.bank_verdicts.specs.declared.verdict.Verdict.{Verdict}
use Rattle.bank_verdicts.specs.declared.verdict.Verdict.TheVariants as verdict
use Rattle.opening_counts.specs.declared.seven.Counts.{Counts}
use Rattle.opening_counts.specs.Counts.{sum, with_dropped, action_counts, verdict_counts, counts_after}

-- how many transactions an action opens, and how many of the open ones it ends
abbrev pub opens : Action → ℕ
opens (action.Upload (up.Opened n)) = 1
opens (action.Upload up.Took) = 0
opens (action.Upload up.TookLast) = 0
opens (action.Upload (up.Point k)) = 0
opens (action.Upload (up.Cancelled r)) = 0
opens (action.Download (down.Opened n)) = 1
opens (action.Download (down.Delivered n)) = 0
opens (action.Download (down.SentAgain n)) = 0
opens (action.Download (down.Point d)) = 0
opens (action.Download down.Cancelled) = 0
opens (action.Download down.Confirmed) = 0
opens (action.Download down.Declined) = 0

abbrev pub ends : Action → ℕ → ℕ
ends (action.Upload (up.Opened n)) others = 0
ends (action.Upload up.Took) others = 0
ends (action.Upload up.TookLast) others = 1
ends (action.Upload (up.Point k)) others = 0
ends (action.Upload (up.Cancelled r)) others = 1
ends (action.Download (down.Opened n)) others = 0
ends (action.Download (down.Delivered n)) others = 0
ends (action.Download (down.SentAgain n)) others = 0
ends (action.Download (down.Point d)) others = 0
ends (action.Download down.Cancelled) others = 1
ends (action.Download down.Confirmed) others = 1 + others
ends (action.Download down.Declined) others = 1

-- a refusal and a signing open and end none
abbrev pub opens_by : Verdict → ℕ
opens_by verdict.Unreadable = 0
opens_by (verdict.Refused r) = 0
opens_by (verdict.Of t a) = opens a
opens_by (verdict.Signed o added) = 0

abbrev pub ends_by : Verdict → ℕ → ℕ
ends_by verdict.Unreadable others = 0
ends_by (verdict.Refused r) others = 0
ends_by (verdict.Of t a) others = ends a others
ends_by (verdict.Signed o added) others = 0

-- ---- the sum

action-sum : (a : Action) (others : ℕ) (c : Counts) → ends a others ≤ c.pending
    → sum (action_counts a others c) ≡ sum c + opens a
action-sum (action.Upload (up.Opened n)) others c h = omega arith
action-sum (action.Upload up.Took) others c h = omega arith
action-sum (action.Upload up.TookLast) others c h = omega arith
action-sum (action.Upload (up.Point k)) others c h = omega arith
action-sum (action.Upload (up.Cancelled r)) others c h = omega arith
action-sum (action.Download (down.Opened n)) others c h = omega arith
action-sum (action.Download (down.Delivered n)) others c h = omega arith
action-sum (action.Download (down.SentAgain n)) others c h = omega arith
action-sum (action.Download (down.Point d)) others c h = omega arith
action-sum (action.Download down.Cancelled) others c h = omega arith
action-sum (action.Download down.Confirmed) others c h = omega arith
action-sum (action.Download down.Declined) others c h = omega arith

verdict-sum : (v : Verdict) (others : ℕ) (c : Counts) → ends_by v others ≤ c.pending
    → sum (verdict_counts v others c) ≡ sum c + opens_by v
verdict-sum verdict.Unreadable others c h = omega arith
verdict-sum (verdict.Refused r) others c h = omega arith
verdict-sum (verdict.Of t a) others c h = action-sum a others c h
verdict-sum (verdict.Signed o added) others c h = omega arith

-- the seven add up to one more at an opening, and else to as many as before
pub after-sum : (v : Verdict) (gone others : ℕ) (c : Counts) → gone + ends_by v others ≤ c.pending
    → sum (counts_after v gone others c) ≡ sum c + opens_by v
after-sum v gone others c h =
    let e = verdict-sum v others (with_dropped gone c) (omega arith) in omega arith

-- ---- the open ones

action-pending : (a : Action) (others : ℕ) (c : Counts) → ends a others ≤ c.pending
    → (action_counts a others c).pending + ends a others ≡ c.pending + opens a
action-pending (action.Upload (up.Opened n)) others c h = omega arith
action-pending (action.Upload up.Took) others c h = omega arith
action-pending (action.Upload up.TookLast) others c h = omega arith
action-pending (action.Upload (up.Point k)) others c h = omega arith
action-pending (action.Upload (up.Cancelled r)) others c h = omega arith
action-pending (action.Download (down.Opened n)) others c h = omega arith
action-pending (action.Download (down.Delivered n)) others c h = omega arith
action-pending (action.Download (down.SentAgain n)) others c h = omega arith
action-pending (action.Download (down.Point d)) others c h = omega arith
action-pending (action.Download down.Cancelled) others c h = omega arith
action-pending (action.Download down.Confirmed) others c h = omega arith
action-pending (action.Download down.Declined) others c h = omega arith

verdict-pending : (v : Verdict) (others : ℕ) (c : Counts) → ends_by v others ≤ c.pending
    → (verdict_counts v others c).pending + ends_by v others ≡ c.pending + opens_by v
verdict-pending verdict.Unreadable others c h = omega arith
verdict-pending (verdict.Refused r) others c h = omega arith
verdict-pending (verdict.Of t a) others c h = action-pending a others c h
verdict-pending (verdict.Signed o added) others c h = omega arith

pub after-pending : (v : Verdict) (gone others : ℕ) (c : Counts) → gone + ends_by v others ≤ c.pending
    → (counts_after v gone others c).pending + (gone + ends_by v others) ≡ c.pending + opens_by v
after-pending v gone others c h =
    let e = verdict-pending v others (with_dropped gone c) (omega arith) in omega arith
