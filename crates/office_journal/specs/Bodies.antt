-- The bodies of an office's journal: the settings' file, the entries, and the mark between the editions.
use Rattle.std.specs.Prelude.{ℕ, List, [], ◌∷◌, ◌++◌, Option, None, Some, codes}
use Rattle.hazard_types.specs.Calendar.{stamp_of}
use Rattle.office_types.specs.declared.request.Edition.{Edition}
use Rattle.office_types.specs.declared.request.Edition.TheVariants.{One, Two}
use Rattle.office_types.specs.declared.request.Entry.{Entry}
use Rattle.request_json.specs.Canonical.{asked_text}
use Rattle.request_json.specs.declared.asked.Asked.{Asked}
use Rattle.office_core.specs.Histories.{Entered}
use Rattle.office_core.specs.declared.made.Made.{Made}

-- the text of a product behind a line feed
abbrev pub text_after_line_feed : Option Made → List ℕ
text_after_line_feed None = []
text_after_line_feed (Some made) = 10 ∷ made.sent.text

-- only an entry of edition Two carries the text of its product
abbrev pub carried : Edition → Option Made → List ℕ
carried One made = []
carried Two made = text_after_line_feed made

abbrev pub asked_by : Entry → Asked
asked_by e = record { desk = e.desk; seq = e.seq; request = e.request }

-- the stamp of the entry's minute, a blank, the canonical text of its request, and what it carries
unfoldable pub entry_body : Entered → List ℕ
entry_body x = stamp_of x.entry.minute ++ (32 ∷ (asked_text (asked_by x.entry) ++ carried x.entry.edition x.made))

abbrev pub mark : List ℕ
mark = codes "edition 2"

-- the mark stands where edition Two begins
abbrev pub marks : Edition → Edition → List (List ℕ)
marks One Two = mark ∷ []
marks _ _ = []

-- the bodies of entries that follow an edition, up to another one
abbrev pub bodies_from : Edition → List Entered → Edition → List (List ℕ)
bodies_from before [] now = marks before now
bodies_from before (x ∷ entries) now = marks before x.entry.edition ++ (entry_body x ∷ bodies_from x.entry.edition entries now)

-- all bodies: the settings' file comes first
abbrev pub bodies_of : List ℕ → List Entered → Edition → List (List ℕ)
bodies_of file entries now = file ∷ bodies_from One entries now
