-- "It opens no transaction and takes no running number": what a signing leaves alone. Assumes nothing.
use Prim.Native.Nat.{ℕ, ◌<◌}
use mathlib.Core.Bool.{true}
use mathlib.Core.Path.{◌≡◌, refl, ◌∙◌}
use native.Mathlib.Omega.{arith}
use lib.Seq.{get_or-set_same, get_or-set_other}
use Rattle.frame_table.specs.declared.fields.Fields.{Fields}
use Rattle.frame_table.specs.Names.{subscriber}
use Rattle.signers.specs.Signers.{has_bit, is_signer}
use Rattle.signers.proofs.Laws.{again}
use Rattle.bank_state.specs.State.{Bank, no_place, place_at}
use Rattle.bank_state.specs.Limits.{place_count}
use Rattle.bank_rows.specs.State.{Held}
use Rattle.bank_verdicts.specs.Judgement.{order_at}
use Rattle.bank_signing.specs.Signings.{signed_place, sign}

-- but for the nonces, and of the places but for the signers of the order named, the bank is as before
pub record OnlySigned (q : Fields) (b after : Bank) : Type 0 where
  pub clock : after.clock ≡ b.clock
  pub openings : after.openings ≡ b.openings
  pub series : after.series ≡ b.series
  pub downloads : after.downloads ≡ b.downloads
  pub files : after.files ≡ b.files
  pub others : (i : ℕ) → (i ≡ order_at b q → ⊥) → place_at after i ≡ place_at b i
  pub own : place_at after (order_at b q) ≡ signed_place (subscriber q) (place_at b (order_at b q))

module _ (q : Fields) (b : Bank) (k : Held b) (inside : order_at b q < place_count) where
  pub only-signed : OnlySigned q b (sign q b)
  unfolding sign
  only-signed = record {
    clock = refl;
    openings = refl;
    series = refl;
    downloads = refl;
    files = refl;
    others = λ i apart. get_or-set_other b.places (order_at b q) i _ no_place apart;
    own = get_or-set_same b.places (order_at b q) _ no_place (omega (arith, k.places));
  }

  -- "Signing again answers 000000 and adds nobody"
  pub signed-again : has_bit (subscriber q) ≡ true → is_signer (subscriber q) (place_at b (order_at b q)).signers ≡ true
      → place_at (sign q b) (order_at b q) ≡ place_at b (order_at b q)
  signed-again bit signer =
      only-signed.own
      ∙ rw (again (subscriber q) (place_at b (order_at b q)).signers bit signer)
