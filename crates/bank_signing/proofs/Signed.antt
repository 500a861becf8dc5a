-- An accepted signing finds its order and room for its nonce; the bank that it leaves is one that rows can hold. Assumes
-- nothing.
use Prim.Native.Nat.{ℕ, ◌≤◌, ◌<◌}
use mathlib.Core.Bool.{Bool, true, false}
use mathlib.Core.List.{List}
use mathlib.Core.Path.{◌≡◌, refl, ap, ◌∙◌}
use native.Mathlib.Omega.{arith}
use Rattle.frame_table.specs.declared.fields.Bits128.{Bits128}
use Rattle.frame_table.specs.declared.fields.Fields.{Fields}
use Rattle.frame_table.specs.Names.{subscriber, nonce, timestamp, order_number, owner}
use Rattle.octets.proofs.Tests.{never}
use Rattle.signers.specs.Signers.{has_bit, with_signer}
use Rattle.signers.proofs.Laws.{stays-small, nobody}
use Rattle.bank_state.specs.State.{Bank, place_at, with_place}
use Rattle.bank_state.specs.declared.state.Place.{Place}
use Rattle.bank_state.specs.Limits.{nonce_count, all_signers}
use Rattle.bank_state.specs.Search.{free_nonce}
use Rattle.bank_rows.specs.Records.{bits}
use Rattle.bank_rows.specs.State.{nonce_count_of, bank_of, stored, Laid, Held}
use Rattle.bank_rows.proofs.Calls.{Within, within-own, stored-change, laid_next, held_place}
use Rattle.bank_rows.proofs.Reading.{free-nonce}
use Rattle.bank_rows.proofs.State.{stored_back}
use Rattle.bank_verdicts.specs.declared.verdict.Verdict.{Verdict}
use Rattle.bank_verdicts.specs.Refusals.{find_order}
use Rattle.bank_verdicts.specs.Judgement.{order_at, judge_signing}
use Rattle.bank_verdicts.proofs.Signing.{SigningSound, is_signed, judged-signing}
use Rattle.bank_verdicts.proofs.Signing as sound
use Rattle.bank_openings.specs.Openings.{remembered}
use Rattle.bank_openings.proofs.Opened.{noted, held-noted}
use Rattle.bank_signing.specs.Signings.{SignerSets, Signs, signed_place, sign}

-- ---- an accepted signing

module _ (b : Bank) (q : Fields) (sets : SignerSets b) where
  pub room_by : (v : Verdict) → SigningSound b q v → is_signed v ≡ true → Signs b q
  room_by v (sound.unsigned c h) e = never e
  room_by v (sound.signs a) e =
      record { inside = a.inside; signers = sets (order_at b q) a.inside; memory = a.memory }

  -- the verdict on a signing that signs is given only where there is room
  pub signed-room : is_signed (judge_signing b q) ≡ true → Signs b q
  signed-room e = room_by (judge_signing b q) (judged-signing b q) e

-- ---- the bank that it leaves

-- a signer more leaves a set of the 8 subscribers
pub signers-few : (s set : ℕ) → set ≤ all_signers → with_signer s set ≤ all_signers
signers-few s set h = at (has_bit s) refl
  where
    at : (t : Bool) → has_bit s ≡ t → with_signer s set ≤ all_signers
    at true b = let small = stays-small s set b (omega arith) in omega arith
    at false b = rw (nobody s set b) h

module _ (q : Fields) (b : Bank) where
  -- the bank with the signer
  abbrev pub placed : Bank
  placed = with_place (order_at b q) (signed_place (subscriber q) (place_at b (order_at b q))) b

  same_memory : free_nonce placed ≡ free_nonce b
  unfolding free_nonce
  same_memory = refl

  pub held-signed : Held b → free_nonce b < nonce_count → Held (sign q b)
  unfolding sign
  held-signed k memory = held-noted q placed (held_place _ _ k) (omega (arith, same_memory))

-- ---- the order that the code finds

module _ (b : Bank) (q : Fields) {i o n : ℕ} (e : i ≡ find_order o n b) (x : o ≡ owner q) (y : n ≡ order_number q) where
  pub found_at : i ≡ order_at b q
  found_at = e ∙ rw (x, y)

  pub found-signers : Signs b q → {p : Place} → p ≡ place_at b i → p.signers ≤ all_signers
  found-signers r f = rw (f, found_at) r.signers

  -- its place with the signer
  pub placed_at : {p g : Place} {s : ℕ} → p ≡ place_at b i → s ≡ subscriber q → g ≡ signed_place s p
      → g ≡ signed_place (subscriber q) (place_at b (order_at b q))
  placed_at f z h = h ∙ rw (f, z, found_at)

-- ---- the changes of a signing, one after another: the place, then the nonce

module _ (s : List ℕ) (l : Laid s) (q : Fields) where
  abbrev b : Bank
  b = bank_of s

  placed-within : Within s (placed q b)
  placed-within =
      let own = within-own s l in
      record { held = held_place _ _ own.held; downloads = own.downloads; nonces = own.nonces }

  module _ (r : Signs b q) (t : List ℕ) (i : ℕ) (p : Place) (x : i ≡ order_at b q)
      (y : p ≡ signed_place (subscriber q) (place_at b (order_at b q))) (e : t ≡ stored (with_place i p b) s) where
    placed-stored : t ≡ stored (placed q b) s
    placed-stored =
        e ∙ ap (λ (j : ℕ). stored (with_place j p b) s) x
        ∙ ap (λ (c : Place). stored (with_place (order_at b q) c b) s) y

    pub placed-laid : Laid t
    placed-laid = laid_next s l (placed q b) placed-within t placed-stored

    pub placed-memory : nonce_count_of t < nonce_count
    placed-memory =
        let back = ap bank_of placed-stored ∙ stored_back (placed q b) placed-within.held s l in
        let same : free_nonce (bank_of t) ≡ free_nonce b = ap free_nonce back ∙ same_memory q b in
        omega (arith, same, free-nonce t, r.memory)

    pub signed-stored : (u : List ℕ) (v : Bits128) (time : ℕ) → v ≡ nonce q → time ≡ timestamp q
        → u ≡ stored (noted (bits v.high v.low) time (bank_of t)) t → u ≡ stored (sign q b) s
    unfolding sign
    signed-stored u v time a c f =
        stored-change s l (placed q b) placed-within.held (remembered q)
        (held-signed q b (within-own s l).held r.memory) (omega (arith, placed-within.downloads))
        (omega (arith, placed-within.nonces)) t u placed-stored
        (f ∙ ap (λ (w : Bits128). stored (noted (bits w.high w.low) time (bank_of t)) t) a
        ∙ ap (λ (m : ℕ). stored (noted (nonce q) m (bank_of t)) t) c)
