-- "Signing an order already lodged." (document 02, card 8): what an accepted signing leaves.
use Rattle.std.specs.Prelude.{ℕ, ◌<◌, ◌≤◌}
use Rattle.frame_table.specs.declared.fields.Fields.{Fields}
use Rattle.frame_table.specs.Names.{subscriber}
use Rattle.signers.specs.Signers.{with_signer}
use Rattle.bank_state.specs.State.{Bank, place_at, with_place}
use Rattle.bank_state.specs.declared.state.Place.{Place}
use Rattle.bank_state.specs.Limits.{place_count, nonce_count, all_signers}
use Rattle.bank_state.specs.Search.{free_nonce}
use Rattle.bank_verdicts.specs.Judgement.{order_at}
use Rattle.bank_openings.specs.Openings.{remembered}

-- "Signers are a set over the 8 subscribers": those of every place
abbrev pub SignerSets : Bank → Type 0
SignerSets b = (i : ℕ) → i < place_count → (place_at b i).signers ≤ all_signers

-- room for one signing more: its order is in the book, with a set of signers, and not 64 nonces are remembered
pub record Signs (b : Bank) (q : Fields) : Type 0 where
  pub inside : order_at b q < place_count
  pub signers : (place_at b (order_at b q)).signers ≤ all_signers
  pub memory : free_nonce b < nonce_count

-- "the subscriber becomes a signer of that booked order": its place with this signer, and otherwise as it was
abbrev pub signed_place : ℕ → Place → Place
signed_place s p = record {
  used = p.used;
  transaction = p.transaction;
  subscriber = p.subscriber;
  number = p.number;
  segments = p.segments;
  taken = p.taken;
  attempts = p.attempts;
  last = p.last;
  length = p.length;
  signers = with_signer s p.signers;
}

-- "It opens no transaction and takes no running number; its nonce is remembered, the subscriber becomes a signer"
unfoldable pub sign : Fields → Bank → Bank
sign q b =
    let i = order_at b q in
    remembered q (with_place i (signed_place (subscriber q) (place_at b i)) b)
