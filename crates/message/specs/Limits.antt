-- The numbers of document 01 that the bank and the client share.
use Rattle.std.specs.Prelude.{ℕ}
pub use Rattle.frame_writer.specs.Writer.{segment_bytes}

-- card 6, "Allow 31 segments": "091118 begins at 32"
abbrev pub max_segments : ℕ
max_segments = 31

-- "places, mailboxes, payloads and file buffers of 7,936 bytes": all segments of an order
abbrev pub file_bytes : ℕ
file_bytes = 7936

-- "The first five get 061101"; "These repeats and returns number at most five"
abbrev pub max_attempts : ℕ
max_attempts = 5

-- "Subscribers are 1 to 8, each with the mailbox of that number"
abbrev pub subscribers : ℕ
subscribers = 8

-- "FUL is an upload, FDL a download": three characters, high byte first
abbrev pub ful : ℕ
ful = 0x46554C

abbrev pub fdl : ℕ
fdl = 0x46444C

-- "1 initialisation, 2 transfer, 3 receipt"
abbrev pub initialisation_phase : ℕ
initialisation_phase = 1

abbrev pub transfer_phase : ℕ
transfer_phase = 2

abbrev pub receipt_phase : ℕ
receipt_phase = 3
