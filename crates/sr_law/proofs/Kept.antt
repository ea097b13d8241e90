-- In a lawful list an open connection keeps its server.
use Rattle.std.proofs.Common.{◌≡◌, ℕ, zero, suc, ◌<◌, ◌≤◌, true, List, length, get_or, take, reverse, refl, sym, ap, ◌∙◌, arith}
use Rattle.std.proofs.Math.Numerals.{add-one}
use Rattle.std.proofs.lemmas.Bool.{and_from}
use Rattle.std.proofs.lemmas.Option.{slice_get_within, slice_get-get_or}
use Rattle.sr_law.specs.declared.line.Line.{Line}
use Rattle.sr_law.specs.declared.line.Line.TheVariants.{Recorded}
use Rattle.sr_law.specs.Lawful.{MeetsClauses, NoLineBreaks}
use Rattle.sr_law.specs.Laws.{ConnectionsKeepServers}
use Rattle.sr_law.specs.Retire.{EndingPacket}
use Rattle.sr_law.specs.Server.{meets_server}
use Rattle.sr_law.specs.Setup.{SetupView}
use Rattle.sr_law.proofs.Clauses.{meets}
use Rattle.sr_law.proofs.Newest.{newest_more}
use Rattle.sr_law.proofs.OneServer.{all_meet_server, one_server}

module _ (setup : SetupView) (endings : List EndingPacket) (lines : List Line) (met : NoLineBreaks setup endings lines) where
  -- each line meets the clauses
  pub met_at : (i : ℕ) (d : Line) → i < length lines → MeetsClauses setup endings (reverse (take i lines)) (get_or lines i d)
  met_at i d h = meets setup endings (reverse (take i lines)) (get_or lines i d) (met i (get_or lines i d) (slice_get-get_or lines i d h))

  -- so the first n name the right servers
  pub all_right : (n : ℕ) → n ≤ length lines → all_meet_server setup.pools (reverse (take n lines)) ≡ true
  all_right zero h = refl
  all_right (suc n) h =
      let d : Line = Recorded 0 0 in
      let before = reverse (take n lines) in
      ap (λ k. all_meet_server setup.pools (reverse (take k lines))) (sym (add-one n))
      ∙ ap (all_meet_server setup.pools) (newest_more lines n d (omega arith))
      ∙ and_from (meets_server setup.pools before (get_or lines n d)) (all_meet_server setup.pools before) (met_at n d (omega arith)).server (all_right n (omega arith))

  -- and a packet of an open connection that began after the opening goes to the opening's server
  pub kept : ConnectionsKeepServers lines
  kept i line choice o at is found later =
      let m = meets setup endings (reverse (take i lines)) line (met i line at) in
      one_server setup.pools (reverse (take i lines)) line (all_right i (omega (arith, slice_get_within lines i line at))) m.server m.same choice o is found later
