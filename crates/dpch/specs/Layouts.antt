-- The layout of a slot, whichever channel, link and format it comes from: the widths of its fields in their order, and its length.
-- Assumes nothing.
use Rattle.std.specs.Prelude.{ℕ, ◌≡◌, List, [], ◌∷◌}
use Rattle.run.specs.Fields.{total}
use Rattle.dpch.specs.Formats.{widths}
use Rattle.dpch.specs.Compressed.{format_in}
use Rattle.dpch.specs.Uplink.{dpdch_size, dpcch_format, dpcch_widths}

pub record Layout : Type 0 where
  pub fields : List ℕ
  pub slot : ℕ

-- the fields fill the slot exactly
abbrev pub Fills : Layout → Type 0
Fills l = total l.fields ≡ l.slot

-- the dedicated physical channels of both links, the downlink's in its normal formats and in those of compressed frames: the kind is 0 for normal, 1 for A, 2 for B
pub data Channel : Type 0 where
  downlink_dpch : ℕ → Channel
  uplink_dpdch : Channel
  uplink_dpcch : Channel

-- the layout of a channel's format; no field and no digit where the channel's table lacks the format
abbrev pub layout_of : Channel → ℕ → Layout
layout_of (downlink_dpch kind) format = record { fields = widths (format_in kind format); slot = (format_in kind format).slot }
layout_of uplink_dpdch format = record { fields = dpdch_size format ∷ []; slot = dpdch_size format }
layout_of uplink_dpcch format = record { fields = dpcch_widths (dpcch_format format); slot = (dpcch_format format).slot }
