-- The bytes of replies.
use Rattle.std.specs.Prelude.{ℕ, ◌+◌, ◌*◌, List, ◌++◌, Option, Some, None, if◌then◌else◌, get_or, slice_range}
use Rattle.std.specs.Option.{option_map}
use Rattle.aoe_base.specs.declared.address.Mac.{Mac}
use Rattle.aoe_base.specs.declared.sectors.Span.{Span}
use Rattle.aoe_frame.specs.Header.{fields, header_bytes, padded, reply_header}
use Rattle.aoe_base.specs.Refusal.{code_of_error}
use Rattle.aoe_frame.specs.declared.header.Header.{Header}
use Rattle.aoe_base.specs.declared.refusal.AoeError.{AoeError}
use Rattle.aoe_base.specs.declared.refusal.AoeError.TheVariants.{ConfigStringPresent}
use Rattle.aoe_base.specs.Addresses.{holds}
use Rattle.aoe_base.specs.Names.{device_text}
use Rattle.aoe_ata.specs.Args.{args_bytes}
use Rattle.aoe_ata.specs.Identify.{page}
use Rattle.aoe_ata.specs.Reply.{reply_of}
use Rattle.aoe_ata.specs.Serial.{filled}
use Rattle.aoe_ata.specs.declared.args.AtaArgs.{AtaArgs}
use Rattle.aoe_ata.specs.declared.reply.AtaOutcome.{AtaOutcome}
use Rattle.aoe_ata.specs.declared.reply.AtaOutcome.TheVariants.{Done}
use Rattle.aoe_target.specs.declared.station.Station.{Station}

-- the port that a reply comes from: the one that the request went to, else the shelf's first
abbrev pub reply_port : Station → Header → Mac
reply_port station h = if holds station.ports.items h.dst then h.dst else get_or station.ports.items 0 h.dst

-- the header of a reply
abbrev pub reply_head : Station → Header → Option AoeError → List ℕ
reply_head station h error = header_bytes (reply_header h station.id (reply_port station h) (option_map code_of_error error))

-- a reply with these arguments
unfoldable pub spelled : Station → Header → Option AoeError → List ℕ → List ℕ
spelled station h error args = padded (reply_head station h error ++ args)

-- what of a request a reply with an error repeats
abbrev pub repeated : List ℕ → List ℕ
repeated f = slice_range f 24 60

-- the arguments of a reply with an error: those of the request, but for the error that tells the config string
abbrev pub error_args : AoeError → List ℕ → List ℕ → List ℕ
error_args ConfigStringPresent f args = args
error_args error f args = repeated f

-- the reply of a step of the lists
abbrev pub step_reply : Station → List ℕ → Option AoeError → List ℕ → List ℕ
step_reply station f None args = spelled station (fields f) None args
step_reply station f (Some error) args = spelled station (fields f) (Some error) (error_args error f args)

-- a reply to an ATA command, without data and with data
abbrev pub ata_reply : Station → Header → AtaArgs → AtaOutcome → List ℕ
ata_reply station h args outcome = spelled station h None (args_bytes (reply_of args outcome))

abbrev pub data_reply : Station → Header → AtaArgs → List ℕ → List ℕ
data_reply station h args bytes = spelled station h None (args_bytes (reply_of args Done) ++ bytes)

-- the data of a reply: as many bytes behind header and registers as the sectors have
abbrev pub data_of : Span → List ℕ → List ℕ
data_of span reply = slice_range reply 36 (36 + 512 * span.count)

-- the identify page of the target, whose serial number is its name
abbrev pub identity : Station → List ℕ
identity station = page station.sectors (filled 20 (device_text station.id))
