use Rattle.std.proofs.Common.{rules, ◌∙◌, sym, ap, map, Some, string_bytes, ⊎_elim}
use Rattle.clap.specs.Words.{app_of}
use Rattle.clap.specs.Simple.{matches_of}
use Rattle.serve_run.specs.Options.{rows_if}
use Rattle.serve_run.proofs.OptionLaws.{free_is_simple, refused}
use Rattle.serve_run.proofs.options.matched.Goals as goal

pub returns-in-Ok : goal.returns-in-Ok
returns-in-Ok c =
    let app = app_of c.args.command in
    let found = matches_of app (map string_bytes c.args.words.now) in
    let e = c.in-Ok.ensures in
    ap Some (e.matches (free_is_simple app c.requires)).0 ∙ sym (ap (λ kinds. rows_if kinds found) (e.kinds c.requires))

pub returns : goal.returns
returns c = ⊎_elim (λ memory. search rules) (λ among. refused _ _ _ among) (c.in-Err.ensures.kinds c.requires)
