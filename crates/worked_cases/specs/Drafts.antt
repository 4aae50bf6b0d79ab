-- A draft with one setting changed.
use Rattle.std.specs.Prelude.{ℕ, min, pos}
use Rattle.charger.specs.declared.settings.Draft.{Draft}
use Rattle.charger.specs.declared.settings.Setting.{Setting}
use Rattle.charger.specs.declared.settings.Setting.TheVariants.{VpreLo, VpreHi, Itri, Ipre, Ifst, IfstTerm, VbatOvp, VbatChg, VbatMnt}

-- The other eight stay. A current that says when the battery is nearly full has 15 bits; more is as much as they hold.
abbrev pub changed : Setting → ℕ → Draft → Draft
changed VpreLo n d = record { vpre_lo = record { 0 = n }; vpre_hi = d.vpre_hi; itri = d.itri; ipre = d.ipre; ifst = d.ifst; ifst_term = d.ifst_term; vbat_ovp = d.vbat_ovp; vbat_chg = d.vbat_chg; vbat_mnt = d.vbat_mnt }
changed VpreHi n d = record { vpre_lo = d.vpre_lo; vpre_hi = record { 0 = n }; itri = d.itri; ipre = d.ipre; ifst = d.ifst; ifst_term = d.ifst_term; vbat_ovp = d.vbat_ovp; vbat_chg = d.vbat_chg; vbat_mnt = d.vbat_mnt }
changed Itri n d = record { vpre_lo = d.vpre_lo; vpre_hi = d.vpre_hi; itri = record { 0 = n }; ipre = d.ipre; ifst = d.ifst; ifst_term = d.ifst_term; vbat_ovp = d.vbat_ovp; vbat_chg = d.vbat_chg; vbat_mnt = d.vbat_mnt }
changed Ipre n d = record { vpre_lo = d.vpre_lo; vpre_hi = d.vpre_hi; itri = d.itri; ipre = record { 0 = n }; ifst = d.ifst; ifst_term = d.ifst_term; vbat_ovp = d.vbat_ovp; vbat_chg = d.vbat_chg; vbat_mnt = d.vbat_mnt }
changed Ifst n d = record { vpre_lo = d.vpre_lo; vpre_hi = d.vpre_hi; itri = d.itri; ipre = d.ipre; ifst = record { 0 = n }; ifst_term = d.ifst_term; vbat_ovp = d.vbat_ovp; vbat_chg = d.vbat_chg; vbat_mnt = d.vbat_mnt }
changed IfstTerm n d = record { vpre_lo = d.vpre_lo; vpre_hi = d.vpre_hi; itri = d.itri; ipre = d.ipre; ifst = d.ifst; ifst_term = record { 0 = pos (min n 32767) }; vbat_ovp = d.vbat_ovp; vbat_chg = d.vbat_chg; vbat_mnt = d.vbat_mnt }
changed VbatOvp n d = record { vpre_lo = d.vpre_lo; vpre_hi = d.vpre_hi; itri = d.itri; ipre = d.ipre; ifst = d.ifst; ifst_term = d.ifst_term; vbat_ovp = record { 0 = n }; vbat_chg = d.vbat_chg; vbat_mnt = d.vbat_mnt }
changed VbatChg n d = record { vpre_lo = d.vpre_lo; vpre_hi = d.vpre_hi; itri = d.itri; ipre = d.ipre; ifst = d.ifst; ifst_term = d.ifst_term; vbat_ovp = d.vbat_ovp; vbat_chg = record { 0 = n }; vbat_mnt = d.vbat_mnt }
changed VbatMnt n d = record { vpre_lo = d.vpre_lo; vpre_hi = d.vpre_hi; itri = d.itri; ipre = d.ipre; ifst = d.ifst; ifst_term = d.ifst_term; vbat_ovp = d.vbat_ovp; vbat_chg = d.vbat_chg; vbat_mnt = record { 0 = n } }
