-- What the others count tells an opening apart only where it leaves a bank fewer than 8: three idle banks leave it all, so
-- the share adds nothing to 061099. Assumes nothing.
use Prim.Native.Nat.{ℕ, ◌+◌, ◌≤◌}
use mathlib.Core.Bool.{Bool, true, false, ◌&&◌, ◌||◌}
use mathlib.Core.List.{List, [], ◌∷◌}
use mathlib.Core.Path.{◌≡◌, refl}
use native.Mathlib.Omega.{arith}
use lib.Dec.{leb}
use borrow.Author.Tests.{leb-false, lt-leb}
use Rattle.frame_table.specs.declared.fields.Fields.{Fields}
use Rattle.message.specs.declared.codes.ReturnCode.TheVariants as code
use Rattle.bank_state.specs.State.{Bank}
use Rattle.bank_state.specs.Limits.{max_open, shared_open, sure_open, idle_others}
use Rattle.bank_state.specs.Search.{open_count}
use Rattle.bank_verdicts.specs.declared.verdict.Context.{Context}
use Rattle.message.specs.declared.directions.Direction.{Direction}
use Rattle.bank_verdicts.specs.declared.verdict.Verdict.{Verdict}
use Rattle.bank_verdicts.specs.Refusals.{
  Row,
  refusing,
  unknown_type,
  other_direction,
  many_segments,
  is_replay,
  is_held,
  empty_mailbox,
  many_open,
  is_full,
  no_share,
  opening_rows,
}
use Rattle.bank_verdicts.specs.Judgement.{judged, accepted, judge_opening}

and_none : (a : Bool) → a && false ≡ false
and_none true = refl
and_none false = refl

-- a cause that holds only where the first one does
absorbed : (t r s : Bool) → (t ≡ false → s ≡ false) → ((t || r) || s) ≡ (t || r)
absorbed true r s h = refl
absorbed false true s h = refl
absorbed false false s h = h refl

module _ (d : Direction) (b : Bank) (q : Fields) where
  -- others that leave a bank its 8 refuse nothing that the bank does not refuse by itself
  pub few-others : (others : ℕ) → others + max_open ≤ shared_open → (is_full d b q || no_share others b) ≡ is_full d b q
  unfolding is_full no_share
  few-others others few =
      absorbed (leb max_open (open_count b)) _ (leb sure_open (open_count b) && leb shared_open (others + open_count b)) (λ e.
      let below = leb-false max_open (open_count b) e in
      rw (lt-leb shared_open (others + open_count b) (omega arith)) (and_none (leb sure_open (open_count b))))

  -- three idle banks are such
  pub idle-others : (is_full d b q || no_share idle_others b) ≡ is_full d b q
  idle-others = few-others idle_others (omega arith)

  -- the list of a bank that shares with no other
  abbrev pub own_rows : List (Row Verdict)
  own_rows =
      refusing code.InvalidOrderType (unknown_type q)
      ∷ refusing code.InvalidRequest (other_direction d q)
      ∷ refusing code.MaxSegmentsExceeded (many_segments q)
      ∷ refusing code.MessageReplay (is_replay b q)
      ∷ refusing code.OrderIdAlreadyExists (is_held b q)
      ∷ refusing code.NoDownloadDataAvailable (empty_mailbox d b q)
      ∷ refusing code.MaxTransactionsExceeded (many_open b q)
      ∷ refusing code.InternalError (is_full d b q)
      ∷ []

  -- beside three idle banks every opening gets the verdict of that list
  pub idle-rows : opening_rows d idle_others b q ≡ own_rows
  unfolding opening_rows
  idle-rows = rw idle-others

  pub idle-opening : (c : Context) → c.others ≡ idle_others
      → judge_opening d c b q ≡ judged own_rows (accepted d c.prefix b q)
  unfolding judge_opening
  idle-opening c e = rw (e, idle-rows)
