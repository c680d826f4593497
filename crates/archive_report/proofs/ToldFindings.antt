-- The lives, the breaches and the gaps, which are written one after another.
use Rattle.std.proofs.Common.{ℕ, List, ◌++◌, flat_map}
use Rattle.byte_streams.specs.Flows.{Outflow}
use Rattle.event_life.specs.Products.{Product}
use Rattle.product_decoder.specs.ReaderModel.{lives_of, found_of, gaps_found}
use Rattle.program_ends.specs.declared.reading.Stop.{Stop}
use Rattle.program_ends.specs.declared.reading.Stop.TheVariants as stop
use Rattle.archive_report.specs.Pieces.{Halts, Pages}
use Rattle.archive_report.specs.Report.{life_line, breach_line, gap_line, findings_text}
use Rattle.archive_report.proofs.Paging.{pages_both, halts_longer, halts_then, halts_memory}

-- the lines of the breaches, and of the gaps
abbrev pub found_told : List ℕ → List Product → List ℕ
found_told numbers products = flat_map (breach_line numbers) (found_of products)

abbrev pub gaps_told : List Product → List ℕ
gaps_told products = flat_map gap_line (gaps_found products)

module _ (numbers : List ℕ) (products : List Product) (before mid : Outflow) (out out1 : List ℕ) where
  -- the lives halted
  pub lives_halt : (why : Stop) → Halts before mid (out ++ flat_map life_line (lives_of products)) why → Halts before mid (out ++ findings_text numbers products) why
  lives_halt why halts = halts_longer before mid out (flat_map life_line (lives_of products)) (found_told numbers products ++ gaps_told products) why halts

  -- what stands behind the lives halted
  behind_halts : (after : Outflow) (why : Stop) → Pages before mid out out1 (flat_map life_line (lives_of products)) → Halts mid after (out1 ++ (found_told numbers products ++ gaps_told products)) why → Halts before after (out ++ findings_text numbers products) why
  behind_halts after why told halts = halts_then before mid after out out1 (flat_map life_line (lives_of products)) (found_told numbers products ++ gaps_told products) why told halts

  -- memory lacked behind the lives
  pub lacks_behind : Pages before mid out out1 (flat_map life_line (lives_of products)) → Halts before mid (out ++ findings_text numbers products) stop.OutOfMemory
  lacks_behind told = behind_halts mid stop.OutOfMemory told (halts_memory mid (out1 ++ (found_told numbers products ++ gaps_told products)))

  -- the breaches halted
  pub found_halt : (after : Outflow) (why : Stop) → Pages before mid out out1 (flat_map life_line (lives_of products)) → Halts mid after (out1 ++ found_told numbers products) why → Halts before after (out ++ findings_text numbers products) why
  found_halt after why told halts = behind_halts after why told (halts_longer mid after out1 (found_told numbers products) (gaps_told products) why halts)

  -- the gaps halted
  pub gaps_halt : (mid2 after : Outflow) (out2 : List ℕ) (why : Stop) → Pages before mid out out1 (flat_map life_line (lives_of products)) → Pages mid mid2 out1 out2 (found_told numbers products) → Halts mid2 after (out2 ++ gaps_told products) why
      → Halts before after (out ++ findings_text numbers products) why
  gaps_halt mid2 after out2 why told found halts = behind_halts after why told (halts_then mid mid2 after out1 out2 (found_told numbers products) (gaps_told products) why found halts)

  -- all of them were told
  pub all_told : (mid2 after : Outflow) (out2 out3 : List ℕ) → Pages before mid out out1 (flat_map life_line (lives_of products)) → Pages mid mid2 out1 out2 (found_told numbers products) → Pages mid2 after out2 out3 (gaps_told products)
      → Pages before after out out3 (findings_text numbers products)
  all_told mid2 after out2 out3 told found gaps =
      pages_both before mid after out out1 out3 (flat_map life_line (lives_of products)) (found_told numbers products ++ gaps_told products) told
      (pages_both mid mid2 after out1 out2 out3 (found_told numbers products) (gaps_told products) found gaps)
