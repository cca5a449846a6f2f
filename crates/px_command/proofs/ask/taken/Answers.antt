use Rattle.px_command.proofs.ask.taken.Goals as goal

pub returns : goal.returns
returns c = (
  record {
    check = c.in_default.ensures.none;
    check_all = c.in_default-check_all_file.ensures.none;
    check_print = c.in_default-check_print_file.ensures.none;
    check_record = c.in_default-check_record_file.ensures.none;
    replay = c.in_default-replay_files.ensures.none;
    explain = c.in_default-explain_files.ensures.none;
    explain_blocks = c.in_default-explain_blocks_files.ensures.none;
    weave = c.in_default-weave_words.ensures.none;
    serve = c.in_default-serve_words.ensures.none;
    drill = c.in_default-drill_numbers.ensures.none;
    run = c.requires.run;
    text = c.requires.text;
  },
  c.in_ok-text.ensures,
)
