use Rattle.voice_script.specs.Script.{parsed}
use Rattle.console_spec.proofs.OneSoundLemmas.{feed_one, line_one, sounds_one}
use Rattle.console_spec.proofs.SilenceLemmas.{unchain_told}
use Rattle.console_spec.proofs.main_law.sounds_are_one.Goals as goal

pub returns-clause-lines : goal.returns-clause-lines
returns-clause-lines s c = λ kinds named widths poison other before line one two lawful also a b room. line_one kinds poison other lawful also widths (parsed named line) before one two a b room

pub returns-clause-feeds : goal.returns-clause-feeds
returns-clause-feeds s c = λ kinds widths poison other before channel octets one two m n after next lawful also a b. feed_one kinds poison other lawful also widths before channel octets one two m n after next a b

pub returns-clause-runs : goal.returns-clause-runs
returns-clause-runs s c = λ kinds named widths poison other lines octets rest left honest one two lawful also all a b rooms. sounds_one kinds poison other lawful also named widths honest all lines octets rest left one two a b rooms

pub returns-clause-silence : goal.returns-clause-silence
returns-clause-silence s c = λ kinds named widths poison rest honest written h. unchain_told kinds named widths poison rest honest written h
