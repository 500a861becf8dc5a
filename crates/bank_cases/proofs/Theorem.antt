-- Every row of the table of the bank's cases gives what is due, by computation: each list of rows by itself. Assumes
-- nothing.
use Prim.Native.Nat.{◌+◌, ◌<◌}
use mathlib.Core.Bool.{Bool, true, false, ◌&&◌}
use mathlib.Core.Path.{◌≡◌, refl}
use native.Mathlib.Omega.{arith}
use lib.Dec.{leb}
use borrow.Author.Tests.{lt-leb}
use Rattle.bank_state.specs.Search.{open_count}
use Rattle.bank_state.specs.State.{Bank}
use Rattle.bank_verdicts.specs.Refusals.{no_share}
use Rattle.case_rows.specs.Rows.{Holds}
use Rattle.case_rows.proofs.Tables.{listed, both, otherwise}
use Rattle.bank_cases.specs.Table.{
  come,
  order_cases,
  transaction_cases,
  limit_cases,
  share_cases,
  signing_cases,
  signer_cases,
  edition_cases,
  number_cases,
  chosen_cases,
  held_cases,
  numbering_cases,
  frame_cases,
  file_cases,
  image_cases,
  bank_cases,
}
use Rattle.bank_cases.proofs.Computing.{calls, images}
use Rattle.bank_cases.proofs.Quick.{quick, same}

order-hold : Holds quick order_cases
unfolding order_cases calls
order-hold = listed order_cases refl

transactions-hold : Holds quick transaction_cases
unfolding transaction_cases calls
transactions-hold = listed transaction_cases refl

limits-hold : Holds quick limit_cases
unfolding limit_cases calls
limits-hold = listed limit_cases refl

shares-hold : Holds quick share_cases
unfolding share_cases calls
shares-hold = listed share_cases refl

signings-hold : Holds quick signing_cases
unfolding signing_cases calls
signings-hold = listed signing_cases refl

signers-hold : Holds quick signer_cases
unfolding signer_cases calls
signers-hold = listed signer_cases refl

editions-hold : Holds quick edition_cases
unfolding edition_cases calls
editions-hold = listed edition_cases refl

numbers-hold : Holds quick number_cases
unfolding number_cases calls
numbers-hold = listed number_cases refl

chosen-hold : Holds quick chosen_cases
unfolding chosen_cases calls
chosen-hold = listed chosen_cases refl

held-hold : Holds quick held_cases
unfolding held_cases calls
held-hold = listed held_cases refl

numbering-holds : Holds quick numbering_cases
unfolding numbering_cases calls
numbering-holds = listed numbering_cases refl

frames-hold : Holds quick frame_cases
unfolding frame_cases calls
frames-hold = listed frame_cases refl

files-hold : Holds quick file_cases
unfolding file_cases calls
files-hold = listed file_cases refl

images-hold : Holds quick image_cases
unfolding image_cases images
images-hold = listed image_cases refl

pub bank-cases-hold : Holds come bank_cases
unfolding bank_cases
bank-cases-hold =
    otherwise same
    (both order-hold
    (both transactions-hold (both limits-hold (both shares-hold
    (both signings-hold (both signers-hold
    (both editions-hold (both numbers-hold (both chosen-hold (both held-hold (both numbering-holds
    (both frames-hold (both files-hold images-hold)))))))))))))

-- card 13's share while the other three banks are idle: nobody is refused by it who has fewer than 8 open

and_none : (a : Bool) → (a && false) ≡ false
and_none true = refl
and_none false = refl

pub idle-banks : (b : Bank) → open_count b < 8 → no_share 6 b ≡ false
unfolding no_share
idle-banks b few = rw (lt-leb 16 (6 + open_count b) (omega arith)) (and_none (leb 2 (open_count b)))
