-- docs/RULES.md, 'Numbers a call can return': the numbers of the table by name. 0 means done.
-- Assumes nothing.
use Rattle.std.specs.Prelude.{ℕ}

-- 1: format that the table of the channel lacks
abbrev pub format_refused : ℕ
format_refused = 1

-- 2: slot number above 14
abbrev pub slot_refused : ℕ
slot_refused = 2

-- 3: a lent run has the wrong length; the place says which run
abbrev pub length_refused : ℕ
length_refused = 3

-- 4: digit not allowed
abbrev pub digit_refused : ℕ
digit_refused = 4

-- 5: TPC command not 0 or 1; in reading, TPC digits DTX or unlike
abbrev pub tpc_refused : ℕ
tpc_refused = 5

-- 6: TFCI digits mixed, some bits and some DTX; on the downlink alone
abbrev pub tfci_refused : ℕ
tfci_refused = 6

-- 7: pilot differs from the table
abbrev pub pilot_refused : ℕ
pilot_refused = 7

-- 8: Np not 18, 36, 72, 144
abbrev pub np_refused : ℕ
np_refused = 8

-- 9: PICH or P-CCPCH frame, second stream of a DPCH slot or HS-PDSCH subframe, or missing slot of a compressed frame, that no fields give
abbrev pub frame_refused : ℕ
frame_refused = 9

-- 10: AICH values that no indicators give
abbrev pub values_refused : ℕ
values_refused = 10

-- 11: a number outside its range
abbrev pub range_refused : ℕ
range_refused = 11

-- 12: both gains zero
abbrev pub gains_refused : ℕ
gains_refused = 12

-- 20: over-long job file
abbrev pub over_long_refused : ℕ
over_long_refused = 20

-- 21: wrong mark of a job file
abbrev pub mark_refused : ℕ
mark_refused = 21

-- 22: version of a job file not known
abbrev pub version_refused : ℕ
version_refused = 22

-- 23: kind of a record not known
abbrev pub kind_refused : ℕ
kind_refused = 23

-- 24: job file ends early, in its header or in a record
abbrev pub ends_early_refused : ℕ
ends_early_refused = 24

-- 25: bytes after the last record of a job file
abbrev pub bytes_after_refused : ℕ
bytes_after_refused = 25

-- 26: a nonzero indicator of a signature that is not available
abbrev pub signature_refused : ℕ
signature_refused = 26

-- 27: a gap that leaves too few or too many slots of a compressed frame, or runs past slot 14
abbrev pub gap_refused : ℕ
gap_refused = 27

-- 28: buffer of a bank under 8 or over 65536 bytes, or bytes that are no bank
abbrev pub bank_refused : ℕ
bank_refused = 28

-- 29: no slot with the number in the bank
abbrev pub absent_refused : ℕ
absent_refused = 29

-- 30: a slot with the number is already in the bank
abbrev pub present_refused : ℕ
present_refused = 30

-- 31: no room in the bank
abbrev pub room_refused : ℕ
room_refused = 31

-- 32: a count of frames that stands at 4294967295
abbrev pub count_refused : ℕ
count_refused = 32
