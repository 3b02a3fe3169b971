-- How words behind the first are spelled.
use Rattle.std.specs.Prelude.{◌∷◌, List, decimal}
use Rattle.std.specs.List.{flat_map}
use Rattle.aoe_base.specs.Names.{device_text, pair_text}
use Rattle.aoe_base.specs.Texts.{macs_text}
use Rattle.aoe_script.specs.declared.print.Word.{Word}
use Rattle.aoe_script.specs.declared.print.Word.TheVariants.{Name, Number, Device, Ports, Byte, Bytes, Disk, Mode}
use Rattle.aoe_script.specs.Print.{bytes_text, mode_text, which_text}
use Rattle.aoe_script.specs.Words.{Text}

abbrev pub word_text : Word → Text
word_text (Name name) = name.now.items
word_text (Number n) = decimal n
word_text (Device dev) = device_text dev.now
word_text (Ports ports) = macs_text ports.now.items
word_text (Byte byte) = pair_text byte
word_text (Bytes bytes) = bytes_text bytes.now
word_text (Disk which) = which_text which
word_text (Mode mode) = mode_text mode

-- each behind a space (32)
abbrev pub words_text : List Word → Text
words_text words = flat_map (λ word. 32 ∷ word_text word) words
