-- How ports carry samples: as words of two octets, or as octets.
use Rattle.std.specs.Prelude.{ℕ, ◌*◌, ◌/◌, ◌%◌, ◌^◌, ◌==◌, if◌then◌else◌}
use Rattle.voice_script.specs.declared.octets.TheConstants.{WORD_OCTETS}
use Rattle.voice_script.specs.declared.width.Width.{Width}
use Rattle.voice_script.specs.declared.width.PortWidths.{PortWidths}
use Rattle.voice_script.specs.declared.width.Width.TheVariants.{Word, Octet}

-- the octets of so many samples
abbrev pub octet_count : Width → ℕ → ℕ
octet_count Word samples = WORD_OCTETS * samples
octet_count Octet samples = samples

-- what each channel's input carries a sample as, and its output
pub record Widths : Type 0 where
  pub input : ℕ → Width
  pub output : ℕ → Width

-- a port carries octets where the mask's bit of its channel is set
abbrev pub width_at : (mask channel : ℕ) → Width
width_at mask channel = if mask / 2 ^ channel % 2 == 1 then Octet else Word

abbrev pub widths_of : (in8 out8 : ℕ) → Widths
widths_of in8 out8 = record { input = width_at in8; output = width_at out8 }

abbrev pub widths_in : PortWidths → Widths
widths_in ports = widths_of ports.in8 ports.out8
