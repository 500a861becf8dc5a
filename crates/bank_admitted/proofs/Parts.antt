-- One place and one record of downloads: what each verdict leaves of it, and what a later clock and more openings leave.
use Prim.Native.Nat.{ℕ, zero, suc, ◌+◌, ◌-◌, ◌≤◌, ◌<◌}
use mathlib.Core.Bool.{Bool, true, false}
use mathlib.Core.List.{List, ◌++◌, append_assoc}
use mathlib.Core.Path.{◌≡◌, refl, sym, ap, ◌∙◌}
use native.Mathlib.Nat.{zero-add, suc-add}
use native.Mathlib.Omega.{arith}
use lib.ListN.{length, take, drop, replicate, length-append}
use lib.Seq.{take_at, drop-append-add, length-take-le}
use Rattle.frame_table.specs.declared.fields.Bits128.{Bits128}
use Rattle.frame_table.specs.declared.fields.Fields.{Fields}
use Rattle.frame_table.specs.Names.{subscriber, segments}
use Rattle.octets.specs.Bytes.{overwrite}
use Rattle.message.specs.Limits.{subscribers, segment_bytes, max_segments, file_bytes, max_attempts}
use Rattle.message.specs.Segments.{segments_of}
use Rattle.bank_state.specs.declared.state.Download.{Download}
use Rattle.bank_state.specs.declared.state.Place.{Place}
use Rattle.bank_state.specs.declared.state.Use.{Use}
use Rattle.bank_state.specs.declared.state.Use.TheVariants.{Free, Open, Booked}
use Rattle.bank_state.specs.Limits.{all_signers}
use Rattle.bank_openings.specs.Openings.{new_place, new_download}
use Rattle.bank_uploads.specs.Uploads.{grown, booked, attempted}
use Rattle.bank_downloads.specs.Downloads.{moved_to}
use Rattle.bank_admitted.specs.State.{UsedPlace, OpenPlace, BookedPlace, PlaceHolds, OpenRecord, DownloadHolds}

-- ---- a later clock and more openings

module _ (c c' o o' : ℕ) (later : c ≤ c') (grow : o ≤ o') where
  used-later : {t : Bits128} {s n : ℕ} {bytes : List ℕ} → UsedPlace o t s n bytes → UsedPlace o' t s n bytes
  used-later u = record {
    counted = let k = u.counted in omega arith;
    known = u.known;
    most = u.most;
    zeros = u.zeros;
  }

  pub place-later : (p : Place) (bytes : List ℕ) (u : Use) → PlaceHolds u c o p bytes → PlaceHolds u c' o' p bytes
  place-later p bytes Free s = s
  place-later p bytes Open s = record {
    place = used-later s.place;
    some = s.some;
    few = s.few;
    below = s.below;
    tries = s.tries;
    current = let k = s.current in omega arith;
    least = s.least;
    largest = s.largest;
    unsigned = s.unsigned;
  }
  place-later p bytes Booked s = record {
    place = used-later s.place;
    over = s.over;
    some = s.some;
    room = s.room;
    signed = s.signed;
  }

  pub download-later : (file : List ℕ) (e : Download) (u : Bool) → DownloadHolds u c o file e → DownloadHolds u c' o' file e
  download-later file e false s = s
  download-later file e true s = record {
    counted = let k = s.counted in omega arith;
    known = s.known;
    most = s.most;
    tries = s.tries;
    some = s.some;
    within = s.within;
    full = s.full;
    current = let k = s.current in omega arith;
  }

-- ---- the bytes of a place

pub drop-replicate : {A : Type 0} (n m : ℕ) (a : A) → drop n (replicate (n + m) a) ≡ replicate m a
drop-replicate zero m a = rw (zero-add m)
drop-replicate (suc n) m a = rw (suc-add n m) (drop-replicate n m a)

-- "written directly behind the bytes already in its place"
pub written_behind : (a d : List ℕ) (n m : ℕ) → length a ≡ n → n + length d ≤ m →
    overwrite (a ++ replicate (m - n) 0) n d ≡ (a ++ d) ++ replicate (m - (n + length d)) 0
unfolding overwrite
written_behind a d n m e h =
    let k : m - n ≡ length d + (m - (n + length d)) = omega arith in
    let f : drop (n + length d) (a ++ replicate (m - n) 0) ≡ replicate (m - (n + length d)) 0 =
    ap (λ (z : ℕ). drop (z + length d) (a ++ replicate (m - n) 0)) (sym e)
    ∙ (drop-append-add a (replicate (m - n) 0) (length d)
    ∙ (ap (λ (z : ℕ). drop (length d) (replicate z 0)) k ∙ drop-replicate (length d) (m - (n + length d)) 0)) in
    rw (take_at a (replicate (m - n) 0) n e, f) (sym (append_assoc a d (replicate (m - (n + length d)) 0)))

-- zeros behind the first n bytes
zeros-behind : (a bytes : List ℕ) (n m : ℕ) → length a ≡ n → bytes ≡ a ++ replicate m 0 → bytes ≡ take n bytes ++ replicate m 0
zeros-behind a bytes n m long e =
    e ∙ ap (λ (l : List ℕ). l ++ replicate m 0) (sym (ap (take n) e ∙ take_at a (replicate m 0) n long))

-- zeros behind, where bytes were written behind the first n
zeros-written : (bytes d : List ℕ) (n m : ℕ) → length bytes ≡ m → n + length d ≤ m → bytes ≡ take n bytes ++ replicate (m - n) 0 →
    overwrite bytes n d ≡ take (n + length d) (overwrite bytes n d) ++ replicate (m - (n + length d)) 0
zeros-written bytes d n m long room zeros =
    let first : length (take n bytes) ≡ n = length-take-le n bytes (omega arith) in
    zeros-behind (take n bytes ++ d) (overwrite bytes n d) (n + length d) (m - (n + length d)) (rw (length-append, first))
    (ap (λ (l : List ℕ). overwrite l n d) zeros ∙ written_behind (take n bytes) d n m first room)

-- ---- a request to this upload

module _ (o : ℕ) (p : Place) (bytes : List ℕ) (c : ℕ) (u : OpenPlace c o p bytes) where
  -- a recovery attempt
  pub place-attempted : p.attempts < max_attempts → OpenPlace c o (attempted p) bytes
  unfolding attempted
  place-attempted few = record {
    place = record {
      counted = u.place.counted;
      known = u.place.known;
      most = u.place.most;
      zeros = u.place.zeros;
    };
    some = u.some;
    few = u.few;
    below = u.below;
    tries = omega arith;
    current = u.current;
    least = u.least;
    largest = u.largest;
    unsigned = u.unsigned;
  }

  module _ (d : List ℕ) (one : 1 ≤ length d) (short : length d ≤ segment_bytes) (room : p.length + length d ≤ file_bytes)
      (full : length bytes ≡ file_bytes) where
    abbrev written : List ℕ
    written = overwrite bytes p.length d

    used-grown : UsedPlace o p.transaction p.subscriber (p.length + length d) written
    used-grown = record {
      counted = u.place.counted;
      known = u.place.known;
      most = u.place.most;
      zeros = zeros-written bytes d p.length file_bytes full room u.place.zeros;
    }

    -- a segment below N taken
    pub place-grown : (p.taken + 1 ≡ p.segments → ⊥) → OpenPlace c o (grown c (length d) p) written
    unfolding grown
    place-grown below = record {
      place = used-grown;
      some = u.some;
      few = u.few;
      below = let k = u.below in omega arith;
      tries = u.tries;
      current = omega arith;
      least = let k = u.least in omega arith;
      largest = let k = u.largest in omega arith;
      unsigned = u.unsigned;
    }

    -- segment N taken: "Segment N books the order"
    pub place-booked : BookedPlace o (booked (length d) p) written
    unfolding booked
    place-booked = record {
      place = used-grown;
      over = record { segments = refl; taken = refl; attempts = refl; last = refl };
      some = omega arith;
      room = room;
      signed = omega arith;
    }

-- an upload just opened, with its transaction ID and its order's number
pub place_opened : (o c number : ℕ) (t : Bits128) (q : Fields) → t.low < o →
    1 ≤ subscriber q → subscriber q ≤ subscribers → 1 ≤ segments q → segments q ≤ max_segments →
    OpenPlace c o (new_place t number c q) (replicate file_bytes 0)
place_opened o c number t q low known most some few = record {
  place = record { counted = low; known = known; most = most; zeros = refl };
  some = some;
  few = few;
  below = some;
  tries = omega arith;
  current = omega arith;
  least = omega arith;
  largest = omega arith;
  unsigned = refl;
}

-- ---- a booked order

-- the place with another set of signers
abbrev pub with_signers : ℕ → Place → Place
with_signers signers p = record {
  used = p.used;
  transaction = p.transaction;
  subscriber = p.subscriber;
  number = p.number;
  segments = p.segments;
  taken = p.taken;
  attempts = p.attempts;
  last = p.last;
  length = p.length;
  signers = signers;
}

pub place-signed : {o : ℕ} {p : Place} {bytes : List ℕ} (signers : ℕ) → signers ≤ all_signers → BookedPlace o p bytes →
    BookedPlace o (with_signers signers p) bytes
place-signed signers small s = record {
  place = s.place;
  over = record {
    segments = s.over.segments;
    taken = s.over.taken;
    attempts = s.over.attempts;
    last = s.over.last;
  };
  some = s.some;
  room = s.room;
  signed = small;
}

-- ---- a request to this download

-- it stays open: d segments were delivered then
pub download-moved : (o c : ℕ) (file : List ℕ) (e : Download) (d attempts last : ℕ) → e.delivered ≤ d → d ≤ segments_of (length file) →
    attempts ≤ max_attempts → last ≤ c → OpenRecord c o file e → OpenRecord c o file (moved_to d attempts last e)
download-moved o c file e d attempts last count within tries current s = record {
  counted = s.counted;
  known = s.known;
  most = s.most;
  tries = tries;
  some = let k = s.some in omega arith;
  within = within;
  full = s.full;
  current = current;
}

-- a download just opened, with its transaction ID
pub download-opened : (o c : ℕ) (t : Bits128) (q : Fields) (file : List ℕ) → t.low < o → 1 ≤ subscriber q → subscriber q ≤ subscribers →
    1 ≤ length file → 1 ≤ segments_of (length file) → OpenRecord c o file (new_download t c q)
download-opened o c t q file low known most full one = record {
  counted = low;
  known = known;
  most = most;
  tries = omega arith;
  some = omega arith;
  within = one;
  full = full;
  current = omega arith;
}
