mod ExportedLaws
