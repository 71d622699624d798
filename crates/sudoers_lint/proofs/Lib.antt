mod LintLines
mod SameHosts
mod Visits
