-- The last line of a transcript: how much happened.
use Rattle.std.specs.Prelude.{List, [], ◌∷◌, ◌++◌, codes, decimal}
use Rattle.aoe_script.specs.Print.{line_text}
use Rattle.aoe_script.specs.Words.{Text}
use Rattle.aoe_transcript.specs.declared.summary.Summary.{Summary}

-- the event lines of the script, the frames, those that hosts sent, and those of them that weren't the first of their command
abbrev pub frame_words : Summary → List Text
frame_words counts =
    codes "events" ∷ decimal counts.events ∷ codes "frames" ∷ decimal counts.frames ∷ codes "sent" ∷ decimal counts.sent ∷ codes "again" ∷ decimal counts.again ∷ []

-- frames at targets, commands that ended, frames that were lost, slots that lost their power
abbrev pub end_words : Summary → List Text
end_words counts =
    codes "arrived" ∷ decimal counts.arrived ∷ codes "done" ∷ decimal counts.done ∷ codes "lost" ∷ decimal counts.lost ∷ codes "crashed" ∷ decimal counts.crashed ∷ []

abbrev pub summary_text : Summary → Text
summary_text counts = line_text (codes "summary" ∷ (frame_words counts ++ end_words counts))
