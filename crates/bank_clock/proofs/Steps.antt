-- The clock's steps, one after another: what holds the rows together between them. Assumes nothing.
use Prim.Native.Nat.{ℕ, ◌+◌, max}
use mathlib.Core.Bool.{Bool, true, false, ◌&&◌}
use mathlib.Core.List.{List, []}
use mathlib.Core.Path.{◌≡◌, refl, sym, ap, ◌∙◌}
use native.Mathlib.Numerals.{add-one}
use Rattle.bank_state.specs.declared.clock.Ended.TheVariants.{Idle}
use Rattle.bank_state.specs.declared.state.Place.{Place}
use Rattle.bank_state.specs.State.{Bank}
use Rattle.bank_state.specs.Limits.{place_count}
use Rattle.bank_state.specs.Clock.{is_idle, freed, drop_upload, drop_uploads, end_downloads, forget, at_clock, advanced}
use Rattle.bank_state.specs.Search.{is_open}
use Rattle.bank_state.specs.Store.{zeroed}
use Rattle.bank_state.specs.State.{bank_state, no_place, with_clock, with_downloads, with_nonces, with_place, place_at}
use Rattle.bank_rows.specs.State.{bank_of, stored, Laid, StoredWith}
use Rattle.bank_rows.proofs.Calls.{
  Within,
  within-own,
  within-clock,
  within-ended,
  within-at-clock,
  within-drop,
  within-drops,
  held-forgotten,
  stored_next,
  laid_next,
  bank_state-next,
}
use Rattle.bank_rows.proofs.State.{stored-own}

module _ (s : List ℕ) (l : Laid s) where
  abbrev b : Bank
  b = bank_of s

  module _ (c : ℕ) (t : List ℕ) (e : t ≡ stored (with_clock c b) s) where
    clocked : Within s (with_clock c b)
    clocked = within-clock s c (within-own s l)

    pub clocked-laid : Laid t
    clocked-laid = laid_next s l (with_clock c b) clocked t e

    module _ (u : List ℕ) (f : u ≡ stored (with_downloads (end_downloads (Idle c) (bank_of t).downloads) (bank_of t)) t) where
      abbrev ended : Bank
      ended = with_downloads (end_downloads (Idle c) b.downloads) (with_clock c b)

      ended-within : Within s ended
      ended-within = within-ended s (Idle c) clocked

      ended-stored : u ≡ stored ended s
      ended-stored =
          stored_next s l (with_clock c b) clocked (λ (x : Bank). with_downloads (end_downloads (Idle c) x.downloads) x) ended-within.held t u e f

      pub ended-laid : Laid u
      ended-laid = laid_next s l ended ended-within u ended-stored

      pub at-clock-stored : (v : List ℕ) → v ≡ stored (with_nonces (forget c (bank_of u).nonces) (bank_of u)) u → v ≡ stored (at_clock c b) s
      unfolding at_clock
      at-clock-stored v g =
          stored_next s l ended ended-within (λ (x : Bank). with_nonces (forget c x.nonces) x) (held-forgotten c ended-within.held) u v ended-stored g

  -- a drop
  module _ (o : List ℕ) (i c : ℕ) {idle : Bool} (k : c ≡ b.clock)
      (test : idle ≡ (is_open (place_at b i).used && is_idle c (place_at b i).last)) where
    tested : (is_open (place_at b i).used && is_idle b.clock (place_at b i).last) ≡ idle
    tested = sym (test ∙ ap (λ (x : ℕ). is_open (place_at b i).used && is_idle x (place_at b i).last) k)

    pub dropped-idle : idle ≡ true → (p : Place) (t q : List ℕ) → p ≡ no_place → t ≡ stored (with_place i p b) s → q ≡ zeroed o i
        → (mailboxes : List ℕ) → StoredWith (drop_upload i (bank_state b o mailboxes)) s t q
    unfolding drop_upload freed
    dropped-idle y p t q e f g mailboxes =
        rw (tested ∙ y) (record { rows = f ∙ ap (λ (r : Place). stored (with_place i r b) s) e; store = g })

    pub dropped-none : idle ≡ false → (mailboxes : List ℕ) → StoredWith (drop_upload i (bank_state b o mailboxes)) s s o
    unfolding drop_upload
    dropped-none y mailboxes = rw (tested ∙ y) (record { rows = sym (stored-own s l); store = refl })

  -- the drops of all places
  module _ (o : List ℕ) where
    pub drops-start : (mailboxes : List ℕ) → StoredWith (drop_uploads 0 (bank_state b o mailboxes)) s s o
    unfolding drop_uploads
    drops-start mailboxes = record { rows = sym (stored-own s l); store = refl }

    drops-within : (n : ℕ) (mailboxes : List ℕ) → Within s (drop_uploads n (bank_state b o mailboxes)).bank
    drops-within n mailboxes = within-drops s n (bank_state b o mailboxes) (within-own s l)

    module _ (n : ℕ) (t q : List ℕ) (inv : (mailboxes : List ℕ) → StoredWith (drop_uploads n (bank_state b o mailboxes)) s t q) where
      pub drops-laid : Laid t
      drops-laid = laid_next s l (drop_uploads n (bank_state b o [])).bank (drops-within n []) t (inv []).rows

      pub drops-next : (u p : List ℕ) → ((mailboxes : List ℕ) → StoredWith (drop_upload n (bank_state (bank_of t) q mailboxes)) t u p)
          → (mailboxes : List ℕ) → StoredWith (drop_uploads (n + 1) (bank_state b o mailboxes)) s u p
      unfolding drop_uploads
      drops-next u p f mailboxes =
          let w = drop_uploads n (bank_state b o mailboxes) in
          rw (add-one n) (bank_state-next s l w (drops-within n mailboxes) (drop_upload n) (within-drop s n w (drops-within n mailboxes)).held t u q p (inv mailboxes) f)

    -- the whole step of the clock
    module _ (time c : ℕ) (k : c ≡ max b.clock time) (t : List ℕ) (e : t ≡ stored (at_clock c b) s) where
      at-clock : Within s (at_clock c b)
      at-clock = within-at-clock s c (within-own s l)

      pub at-clock-laid : Laid t
      at-clock-laid = laid_next s l (at_clock c b) at-clock t e

      pub advanced-stored : (u p : List ℕ) → ((mailboxes : List ℕ) → StoredWith (drop_uploads place_count (bank_state (bank_of t) o mailboxes)) t u p)
          → (mailboxes : List ℕ) → StoredWith (advanced time (bank_state b o mailboxes)) s u p
      unfolding advanced
      advanced-stored u p f mailboxes =
          let w = bank_state (at_clock c b) o mailboxes in
          rw (← k)
          (bank_state-next s l w at-clock (drop_uploads place_count) (within-drops s place_count w at-clock).held t u o p (record { rows = e; store = refl }) f)
