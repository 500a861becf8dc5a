-- Laws of the next run. Assumes nothing.
use Prim.Native.Nat.{ℕ}
use mathlib.Core.List.{List}
use mathlib.Core.Path.{◌≡◌, refl, ap}
use Rattle.frame_table.specs.declared.fields.Fields.{Fields}
use Rattle.frame_table.specs.Names.{transaction}
use Rattle.client_run.specs.declared.run.ClientRun.{ClientRun}
use Rattle.message.specs.declared.directions.Direction.{Direction}
use Rattle.message.specs.declared.directions.Direction.TheVariants.{Upload, Download}
use Rattle.client_run.specs.NextRun.{learned, length_with, holding, file_by, file_with}

-- ---- an upload holds nothing

module _ (k : ClientRun) (up : k.direction ≡ Upload) where
  length-upload : (d : ℕ) → length_with k.direction k.segment d k.length ≡ k.length
  length-upload d = ap (λ (w : Direction). length_with w k.segment d k.length) up

  pub holding-upload : (d : ℕ) → holding d k ≡ k
  holding-upload d = rw (length-upload d)

  pub file-upload : (d file : List ℕ) → file_with k d file ≡ file
  file-upload d file = ap (λ (w : Direction). file_by w k.segment d file) up

-- ---- what the run n has of the run c before

pub record Same (n c : ClientRun) : Type 0 where
  pub stage : n.stage ≡ c.stage
  pub direction : n.direction ≡ c.direction
  pub subscriber : n.subscriber ≡ c.subscriber
  pub terms : n.terms ≡ c.terms
  pub exchange : n.exchange ≡ c.exchange
  pub repeats : n.repeats ≡ c.repeats

-- once its transaction is known
pub record Known (n c : ClientRun) : Type 0 where
  pub transaction : n.transaction ≡ c.transaction
  pub number : n.number ≡ c.number
  pub segments : n.segments ≡ c.segments
  pub segment : n.segment ≡ c.segment

pub same : (c : ClientRun) → Same c c
same c = record { stage = refl; direction = refl; subscriber = refl; terms = refl; exchange = refl; repeats = refl }

pub known : (c : ClientRun) → Known c c
known c = record { transaction = refl; number = refl; segments = refl; segment = refl }

pub learned-same : (w : Direction) (r : Fields) (c : ClientRun) → Same (learned w r c) c
learned-same Upload r c = record { stage = refl; direction = refl; subscriber = refl; terms = refl; exchange = refl; repeats = refl }
learned-same Download r c =
    record { stage = refl; direction = refl; subscriber = refl; terms = refl; exchange = refl; repeats = refl }

pub learned-transaction : (w : Direction) (r : Fields) (c : ClientRun) → (learned w r c).transaction ≡ transaction r
learned-transaction Upload r c = refl
learned-transaction Download r c = refl

pub learned-length : (w : Direction) (r : Fields) (c : ClientRun) → (learned w r c).length ≡ c.length
learned-length Upload r c = refl
learned-length Download r c = refl

-- a segment held changes none of these
pub held_same : (d : ℕ) (n c : ClientRun) → Same n c → Same (holding d n) c
held_same d n c s =
    record {
      stage = s.stage;
      direction = s.direction;
      subscriber = s.subscriber;
      terms = s.terms;
      exchange = s.exchange;
      repeats = s.repeats;
    }

pub held-known : (d : ℕ) (c : ClientRun) → Known (holding d c) c
held-known d c = record { transaction = refl; number = refl; segments = refl; segment = refl }
