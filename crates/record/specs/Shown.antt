-- What is shown of a record.
use Rattle.std.specs.Prelude.{ℕ, List, ◌++◌, codes, decimal}
use Rattle.record.specs.declared.mode.PlayMode.{PlayMode}
use Rattle.record.specs.declared.mode.PlayMode.TheVariants.{NothingPlaying, Paused, Playing, ForwardScan, ReverseScan}
use Rattle.record.specs.declared.mode.UnknownMode.{UnknownMode}
use Rattle.record.specs.declared.play_status.PlayStatus.{PlayStatus}
use Rattle.record.specs.declared.overview.BrowseResultsOverview.{BrowseResultsOverview}

abbrev pub mode_name : PlayMode → List ℕ
mode_name NothingPlaying = codes "nothing playing"
mode_name Paused = codes "paused"
mode_name Playing = codes "playing"
mode_name ForwardScan = codes "scanning forward"
mode_name ReverseScan = codes "scanning back"

abbrev pub unknown_text : UnknownMode → List ℕ
unknown_text unknown = codes "no play mode has the number " ++ decimal unknown.0

-- which title or chapter, where in it, and how long it is, in seconds
abbrev pub position_text : ℕ → ℕ → ℕ → List ℕ
position_text n at of = decimal n ++ (codes " at " ++ (decimal at ++ (codes " of " ++ (decimal of ++ codes " s"))))

abbrev pub status_text : PlayStatus → List ℕ
status_text s =
    mode_name s.mode ++ (codes " at speed " ++ (decimal s.speed
    ++ (codes ", title " ++ (position_text s.title_number s.title_location s.title_length
    ++ (codes ", chapter " ++ position_text s.chapter_number s.chapter_location s.chapter_length)))))

-- how much of what was found is in the window
abbrev pub overview_text : BrowseResultsOverview → List ℕ
overview_text o = decimal o.lines ++ (codes " of " ++ (decimal o.total ++ codes " lines"))
