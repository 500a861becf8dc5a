-- Which number stands where: a session's numbers in the order of the image, and back, as groups of records.
use Rattle.std.specs.Prelude.{ℕ, zero, suc, ◌+◌, ◌*◌, ◌/◌, ◌%◌, Bool, true, ◌&&◌, List, [], ◌∷◌, ◌++◌, ltb, length, get_or}
use Rattle.bank_state.specs.Limits.{place_count, nonce_count}
use Rattle.bank_rows.specs.Layout as rows
use Rattle.bank_session.specs.Session.{events_at}
use Rattle.image.specs.Table.{hex_digits}
use Rattle.image_records.specs.Layout as image
use Rattle.image_numbers.specs.declared.table.Group.{Group}

-- some records: the first one's numbers begin at a place, each further one's so many numbers on; which of a record's
-- numbers are taken, in their order; how many records
abbrev pub group : ℕ → ℕ → List ℕ → ℕ → Group
group at width parts records =
    record { at = at; width = width; size = length parts; parts = hex_digits parts; records = records }

-- a number that stands alone
abbrev pub single : ℕ → Group
single at = group at 1 (0 ∷ []) 1

abbrev pub no_group : Group
no_group = group 0 0 [] 0

-- where the parts of the image's records stand among the bank's numbers of one record
abbrev pub nonce_parts : List ℕ
nonce_parts = rows.nonce_high ∷ rows.nonce_low ∷ rows.nonce_timestamp ∷ []

abbrev pub download_parts : List ℕ
download_parts =
    rows.download_subscriber ∷ rows.download_high ∷ rows.download_low ∷ rows.download_delivered ∷ rows.download_attempts
    ∷ rows.download_last ∷ []

abbrev pub place_parts : List ℕ
place_parts =
    rows.place_use ∷ rows.place_subscriber ∷ rows.place_high ∷ rows.place_low ∷ rows.place_number ∷ rows.place_segments
    ∷ rows.place_taken ∷ rows.place_attempts ∷ rows.place_last ∷ rows.place_length ∷ rows.place_signers ∷ []

-- the image's numbers in their order up to the journal's, by their places among the session's
abbrev pub session_groups : List Group
session_groups =
    single rows.clock_at  -- "clock" (02)
    ∷ single rows.openings_at  -- "openings accepted" (03)
    ∷ group rows.series_at 1 (0 ∷ []) place_count  -- "series" (04)
    ∷ single events_at  -- "events entered so far" (05)
    ∷ single rows.nonce_count_at  -- "number of nonces remembered" (06)
    ∷ group rows.nonces_at rows.nonce_width nonce_parts nonce_count  -- "nonces" (07)
    ∷ single rows.download_count_at  -- "number of open downloads" (08)
    ∷ group rows.downloads_at rows.download_width download_parts place_count  -- "open downloads" (09)
    ∷ group rows.places_at rows.place_width place_parts place_count  -- "places" (0A)
    ∷ group rows.files_at 1 (0 ∷ []) place_count  -- "file lengths of mailboxes 1 to 8" (0B)
    ∷ []

-- where the bank's numbers of one record stand among the parts of the image's
abbrev pub nonce_numbers : List ℕ
nonce_numbers = 0 ∷ 1 ∷ 2 ∷ []

abbrev pub download_numbers : List ℕ
download_numbers = 1 ∷ 2 ∷ 0 ∷ 3 ∷ 4 ∷ 5 ∷ []

-- the order number has a part of its own, and the signers are the last
abbrev pub place_numbers : List ℕ
place_numbers = 0 ∷ 2 ∷ 3 ∷ 1 ∷ 4 ∷ 5 ∷ 6 ∷ 7 ∷ 8 ∷ 9 ∷ 10 ∷ []

-- the session's numbers in their order, by their places among the image's; the counts, which stand behind the journal
-- there, are told apart
abbrev pub image_groups : List Group
image_groups =
    single image.clock_at
    ∷ single image.openings_at
    ∷ group image.files_at 1 (0 ∷ []) place_count
    ∷ group image.series_at 1 (0 ∷ []) place_count
    ∷ single image.download_count_at
    ∷ single image.nonce_count_at
    ∷ group image.places_at image.place_width place_numbers place_count
    ∷ group image.downloads_at image.download_width download_numbers place_count
    ∷ group image.nonces_at image.nonce_width nonce_numbers nonce_count
    ∷ single image.events_at
    ∷ []

abbrev pub all_groups : List Group
all_groups = session_groups ++ image_groups

unfoldable pub group_at : ℕ → Group
group_at i = get_or all_groups i no_group

-- ---- the places that groups stand for

-- n numbers of the record that begins at a place, each by a hexadecimal digit, the first one's last
unfoldable pub part_places : ℕ → ℕ → ℕ → List ℕ
part_places zero at parts = []
part_places (suc n) at parts = (at + parts % 16) ∷ part_places n at (parts / 16)

unfoldable pub record_places : Group → ℕ → List ℕ
record_places g i = part_places g.size (g.at + g.width * i) g.parts

-- n records from one on
unfoldable pub records_from : Group → ℕ → ℕ → List ℕ
records_from g zero i = []
records_from g (suc n) i = record_places g i ++ records_from g n (i + 1)

unfoldable pub group_places : Group → List ℕ
group_places g = records_from g g.records 0

-- n groups from one on
unfoldable pub groups_from : ℕ → ℕ → List ℕ
groups_from zero i = []
groups_from (suc n) i = group_places (group_at i) ++ groups_from n (i + 1)

unfoldable pub session_places : List ℕ
session_places = groups_from (length session_groups) 0

unfoldable pub image_places : List ℕ
image_places = groups_from (length image_groups) (length session_groups)

-- each place is below n
unfoldable pub are_within : ℕ → List ℕ → Bool
are_within n [] = true
are_within n (p ∷ ps) = ltb p n && are_within n ps
