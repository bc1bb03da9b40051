-- docs/RULES.md, 'Numbers a call can return': the refusals that each C call can answer. docs/INTERFACE.md, 'Which calls give which numbers', has the same lists as a table.
-- Assumes nothing.
use Rattle.std.specs.Prelude.{ℕ, List, [], ◌∷◌}

-- the calls in the order of include/slt.h, each without the prefix slt_ and with - for _
pub data Call : Type 0 where
  pich_q : Call
  pich_map : Call
  pich_read : Call
  wake_run : Call
  wake_step : Call
  slot_map : Call
  slot_read : Call
  slot_map_antenna : Call
  slot_read_antennas : Call
  frame_map : Call
  frame_read : Call
  compressed_map : Call
  compressed_read : Call
  dpdch_map : Call
  dpdch_read : Call
  dpdch_frame_map : Call
  dpdch_frame_read : Call
  dpcch_map : Call
  dpcch_read : Call
  dpcch_frame_map : Call
  dpcch_frame_read : Call
  sttd_digits : Call
  sttd_values : Call
  pccpch_map : Call
  pccpch_read : Call
  hspdsch_map : Call
  hspdsch_read : Call
  slot_lengths : Call
  frame_lengths : Call
  compressed_lengths : Call
  dpdch_lengths : Call
  dpdch_frame_lengths : Call
  dpcch_lengths : Call
  dpcch_frame_lengths : Call
  hspdsch_lengths : Call
  aich_map : Call
  aich_read : Call
  aich_map_available : Call
  aich_read_available : Call
  desk_serve : Call
  desk_to_aich : Call
  desk_to_message : Call
  aich_combine : Call
  sample_off : Call
  sample_shared : Call
  sample_each : Call
  bank_empty : Call
  bank_store : Call
  bank_fetch : Call
  bank_drop : Call
  bank_length : Call
  bank_room : Call

-- beside 0, which every call answers when it is done
unfoldable pub refusals : Call → List ℕ
refusals pich_q = 8 ∷ 11 ∷ []
refusals pich_map = 3 ∷ 4 ∷ 8 ∷ []
refusals pich_read = 3 ∷ 4 ∷ 8 ∷ 9 ∷ []
refusals wake_run = 3 ∷ 4 ∷ 8 ∷ 9 ∷ 11 ∷ 32 ∷ []
refusals wake_step = 3 ∷ 4 ∷ 8 ∷ 9 ∷ 11 ∷ 32 ∷ []
refusals slot_map = 1 ∷ 2 ∷ 3 ∷ 4 ∷ 5 ∷ 6 ∷ []
refusals slot_read = 1 ∷ 2 ∷ 3 ∷ 4 ∷ 5 ∷ 6 ∷ 7 ∷ []
refusals slot_map_antenna = 1 ∷ 2 ∷ 3 ∷ 4 ∷ 5 ∷ 6 ∷ 11 ∷ []
refusals slot_read_antennas = 1 ∷ 2 ∷ 3 ∷ 4 ∷ 5 ∷ 6 ∷ 7 ∷ 9 ∷ []
refusals frame_map = 1 ∷ 3 ∷ 4 ∷ 5 ∷ 6 ∷ []
refusals frame_read = 1 ∷ 3 ∷ 4 ∷ 5 ∷ 6 ∷ 7 ∷ []
refusals compressed_map = 1 ∷ 3 ∷ 4 ∷ 5 ∷ 6 ∷ 27 ∷ []
refusals compressed_read = 1 ∷ 3 ∷ 4 ∷ 5 ∷ 6 ∷ 7 ∷ 9 ∷ 27 ∷ []
refusals dpdch_map = 1 ∷ 3 ∷ 4 ∷ []
refusals dpdch_read = 1 ∷ 3 ∷ 4 ∷ []
refusals dpdch_frame_map = 1 ∷ 3 ∷ 4 ∷ []
refusals dpdch_frame_read = 1 ∷ 3 ∷ 4 ∷ []
refusals dpcch_map = 1 ∷ 2 ∷ 3 ∷ 4 ∷ 5 ∷ []
refusals dpcch_read = 1 ∷ 2 ∷ 3 ∷ 4 ∷ 5 ∷ 7 ∷ []
refusals dpcch_frame_map = 1 ∷ 3 ∷ 4 ∷ 5 ∷ []
refusals dpcch_frame_read = 1 ∷ 3 ∷ 4 ∷ 5 ∷ 7 ∷ []
refusals sttd_digits = 3 ∷ 4 ∷ []
refusals sttd_values = 3 ∷ 11 ∷ []
refusals pccpch_map = 3 ∷ 4 ∷ []
refusals pccpch_read = 3 ∷ 4 ∷ 9 ∷ []
refusals hspdsch_map = 1 ∷ 3 ∷ 4 ∷ []
refusals hspdsch_read = 1 ∷ 3 ∷ 4 ∷ 9 ∷ []
refusals slot_lengths = 1 ∷ 11 ∷ []
refusals frame_lengths = 1 ∷ 11 ∷ []
refusals compressed_lengths = 1 ∷ 11 ∷ 27 ∷ []
refusals dpdch_lengths = 1 ∷ 11 ∷ []
refusals dpdch_frame_lengths = 1 ∷ 11 ∷ []
refusals dpcch_lengths = 1 ∷ 11 ∷ []
refusals dpcch_frame_lengths = 1 ∷ 11 ∷ []
refusals hspdsch_lengths = 1 ∷ 11 ∷ []
refusals aich_map = 3 ∷ 11 ∷ []
refusals aich_read = 3 ∷ 10 ∷ []
refusals aich_map_available = 3 ∷ 11 ∷ 26 ∷ []
refusals aich_read_available = 3 ∷ 10 ∷ 26 ∷ []
refusals desk_serve = 3 ∷ 11 ∷ []
refusals desk_to_aich = 11 ∷ []
refusals desk_to_message = 11 ∷ []
refusals aich_combine = 3 ∷ 11 ∷ 12 ∷ []
refusals sample_off = 11 ∷ []
refusals sample_shared = 11 ∷ []
refusals sample_each = 11 ∷ []
refusals bank_empty = 28 ∷ []
refusals bank_store = 3 ∷ 4 ∷ 11 ∷ 28 ∷ 30 ∷ 31 ∷ []
refusals bank_fetch = 3 ∷ 11 ∷ 28 ∷ 29 ∷ []
refusals bank_drop = 11 ∷ 28 ∷ 29 ∷ []
refusals bank_length = 11 ∷ 28 ∷ 29 ∷ []
refusals bank_room = 28 ∷ []
