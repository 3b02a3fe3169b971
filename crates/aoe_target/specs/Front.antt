-- What a reply with sectors begins with.
use Rattle.std.specs.Prelude.{ℕ, List, ◌++◌, None}
use Rattle.aoe_frame.specs.declared.header.Header.{Header}
use Rattle.aoe_ata.specs.Args.{args_bytes}
use Rattle.aoe_ata.specs.Reply.{reply_of}
use Rattle.aoe_ata.specs.declared.args.AtaArgs.{AtaArgs}
use Rattle.aoe_ata.specs.declared.reply.AtaOutcome.TheVariants.{Done}
use Rattle.aoe_target.specs.Reply.{reply_head}
use Rattle.aoe_target.specs.declared.station.Station.{Station}

-- its header and its registers: the sectors stand behind them
abbrev pub data_front : Station → Header → AtaArgs → List ℕ
data_front station h args = reply_head station h None ++ args_bytes (reply_of args Done)
