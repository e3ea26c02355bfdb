use Rattle.check_sheet.proofs.setup.Setup.new.Goals as goal

pub returns : goal.returns
returns c =
    let made = c.in_ok-net.ensures in
    let named = c.in_ok-model.ensures in (
      rw made.0 named.0,
      record {
        is = record { members = made.1.0; links = made.1.1; meaning = named.1.0 };
        agrees = rw (← named.1.0) named.1.1;
      },
    )
